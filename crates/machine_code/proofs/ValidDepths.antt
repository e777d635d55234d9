-- The depths of a valid code are those that earlier instructions force.
use Rattle.std.proofs.Common.{◌≡◌, ◌≢◌, ℕ, zero, suc, ◌+◌, ◌-◌, ◌^◌, ◌<◌, ◌≤◌, List, [], ◌∷◌, length, Some, refl, sym, ap, ◌∙◌, subst, inl, inr, ⊎_elim, arith}
use Rattle.std.specs.Prelude.{slice_get, slice_index, ◌⊎◌}
use Rattle.std.proofs.lemmas.Bool.{cases_lt}
use Rattle.std.proofs.lemmas.List.{get_or_past}
use Rattle.std.proofs.lemmas.Option.{slice_get_within}
use Rattle.machine_code.specs.declared.instr.Instr.{Instr}
use Rattle.machine_code.specs.declared.instr.Instr.TheVariants.{Tick, Jump, JumpZ, Ret}
use Rattle.machine_code.specs.CodeView.{CodeView}
use Rattle.machine_code.specs.Needs.{needs, gives, EachNext}
use Rattle.machine_code.specs.Valid.{IsNext, Stands, StandsAt, AreDepths, IsValid, LevelAt}
use Rattle.machine_code.specs.Forced.{Forward, AreForced}

pub some_at : {X : Type 0} (xs : List X) (k : ℕ) → k < length xs → (x : X) × (slice_get xs k ≡ Some x)
some_at [] k h = absurd (omega arith)
some_at (x ∷ xs) zero h = (x, refl)
some_at (x ∷ xs) (suc k) h = some_at xs k (omega arith)

-- what holds of each next place holds of a later one to which the instruction goes on
next_at : (P : ℕ → Type 0) (i : Instr) (p q : ℕ) → EachNext P i p → Forward i p q → P q
unfolding Forward
next_at P (Jump t) p q h f = subst P f.0 h
next_at P (JumpZ t) p q h f = ⊎_elim (λ g. subst P g.0 h.0) (λ e. subst P (sym e) h.1) f
next_at P Ret p q h f = absurd f
next_at P i p q h f = subst P (sym f) h

-- an instruction of which no next place is q does not go on there
pub not_forward : (i : Instr) (p q : ℕ) → EachNext (λ r. r ≢ q) i p → Forward i p q → ⊥
not_forward i p q h f = next_at (λ r. r ≢ q) i p q h f refl

-- an instruction goes on at q only forward, or where q is a tick
none_comes : (c : CodeView) (d : List ℕ) (n p q : ℕ) (i : Instr) → (slice_get c.instrs q ≡ Some Tick → ⊥) → (Forward i p q → ⊥) → EachNext (IsNext c d p n) i p → EachNext (λ r. r ≢ q) i p
unfolding Forward
none_comes c d n p q (Jump t) not away h = other c d n p q t not (λ e lt. away (e, lt)) h
  where
    other : (c : CodeView) (d : List ℕ) (n p q t : ℕ) → (slice_get c.instrs q ≡ Some Tick → ⊥) → ((t ≡ q) → p < t → ⊥) → IsNext c d p n t → t ≢ q
    other c d n p q t not away h = λ e. ⊎_elim (λ lt. away e lt) (λ le. not (ap (slice_get c.instrs) (sym e) ∙ h.back le)) (cases_lt p t)
none_comes c d n p q (JumpZ t) not away h = (other c d n p q t not (λ e lt. away (inl (e, lt))) h.0, λ e. away (inr (sym e)))
  where
    other : (c : CodeView) (d : List ℕ) (n p q t : ℕ) → (slice_get c.instrs q ≡ Some Tick → ⊥) → ((t ≡ q) → p < t → ⊥) → IsNext c d p n t → t ≢ q
    other c d n p q t not away h = λ e. ⊎_elim (λ lt. away e lt) (λ le. not (ap (slice_get c.instrs) (sym e) ∙ h.back le)) (cases_lt p t)
none_comes c d n p q Ret not away h = tt
none_comes c d n p q i not away h = λ e. away (sym e)

tick_or : (i : Instr) → (i ≡ Tick) ⊎ (i ≢ Tick)
tick_or Tick = inl refl
tick_or i = inr (λ e. cc)

pub same_some : {X : Type 0} {a b : X} → Some a ≡ Some b → a ≡ b
same_some h = cc

stands_there : (c : CodeView) (d : List ℕ) (p : ℕ) (i : Instr) → AreDepths c d → slice_get c.instrs p ≡ Some i → Stands c d p i
unfolding StandsAt
stands_there c d p i a at = a.stands p (slice_get_within c.instrs p i at) i at

pub stands_in : (c : CodeView) (d : List ℕ) (p : ℕ) (i : Instr) → AreDepths c d → slice_get c.instrs p ≡ Some i → Stands c d p i
stands_in = stands_there

no_instr : (c : CodeView) (d : List ℕ) (q : ℕ) → AreDepths c d → length c.instrs ≤ q → slice_index d q ≡ 0
no_instr c d q a ge = get_or_past d q 0 (omega (arith, a.each))

pub forced_of : (c : CodeView) (d : List ℕ) → c.stack < 2 ^ 32 → AreDepths c d → AreForced c d
forced_of c d few a = record {
  long = a.each;
  small = λ q. ⊎_elim
      (λ lt. let i = some_at c.instrs q lt in let s = stands_there c d q i.0 a i.1 in omega (arith, s.few))
      (λ ge. omega (arith, no_instr c d q a ge))
      (cases_lt q (length c.instrs));
  forced = λ p q i at f lt. (next_at (IsNext c d p (slice_index d p - needs c i + gives i)) i p q (stands_there c d p i a at).next f).depth;
  quiet = λ q none. ⊎_elim
      (λ lt. let i = some_at c.instrs q lt in ⊎_elim
      (λ e. level c d q i.0 e (stands_there c d q i.0 a i.1))
      (λ ne. a.unreached q (λ p j at. none_comes c d (slice_index d p - needs c j + gives j) p q j (λ t. ne (same_some (sym i.1 ∙ t))) (none p j at) (stands_there c d p j a at).next))
      (tick_or i.0))
      (λ ge. no_instr c d q a ge)
      (cases_lt q (length c.instrs));
}
  where
    level : (c : CodeView) (d : List ℕ) (q : ℕ) (i : Instr) → i ≡ Tick → Stands c d q i → slice_index d q ≡ 0
    level c d q i e s = subst (λ j. LevelAt j (slice_index d q)) e s.level

-- the depths that were found are those of a valid code
pub depths_found : (c : CodeView) (found : List ℕ) → c.stack < 2 ^ 32 → ((d : List ℕ) → AreForced c d → found ≡ d) → IsValid c → AreDepths c found
depths_found c found few only v = subst (AreDepths c) (sym (only v.depths.0 (forced_of c v.depths.0 few v.depths.1))) v.depths.1
