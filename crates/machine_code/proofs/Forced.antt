-- One pass finds the only depths.
use Rattle.std.proofs.Common.{◌≡◌, ℕ, ◌+◌, ◌-◌, ◌<◌, ◌≤◌, List, length, Some, sym, ap, ◌∙◌, subst, inl, inr, ⊎_elim, arith}
use Rattle.std.specs.Prelude.{slice_get, slice_index, ◌⊎◌}
use Rattle.std.proofs.lemmas.Bool.{cases_lt}
use Rattle.std.proofs.lemmas.List.{same_lists, get_or_past}
use Rattle.std.proofs.lemmas.Option.{slice_get_within}
use Rattle.std.proofs.lemmas.Grind.{get_or_default_zero}
use Rattle.machine_code.specs.declared.instr.Instr.{Instr}
use Rattle.machine_code.specs.declared.instr.Instr.TheVariants.{Jump, JumpZ, Ret}
use Rattle.machine_code.specs.CodeView.{CodeView}
use Rattle.machine_code.specs.Needs.{needs, gives}
use Rattle.machine_code.specs.Forced.{Forward, AreForced, Known}

is_or : (a b : ℕ) → (a ≡ b) ⊎ (a ≡ b → ⊥)
is_or a b = ⊎_elim (λ lt. inr (λ e. absurd (omega arith))) (λ ge. ⊎_elim (λ gt. inr (λ e. absurd (omega arith))) (λ le. inl (omega arith)) (cases_lt b a)) (cases_lt a b)

both_or : {P Q : Type 0} → P ⊎ (P → ⊥) → Q ⊎ (Q → ⊥) → (P × Q) ⊎ (P × Q → ⊥)
both_or (inl p) (inl q) = inl (p, q)
both_or (inl p) (inr n) = inr (λ h. n h.1)
both_or (inr n) o = inr (λ h. n h.0)

any_or : {P Q : Type 0} → P ⊎ (P → ⊥) → Q ⊎ (Q → ⊥) → (P ⊎ Q) ⊎ (P ⊎ Q → ⊥)
any_or (inl p) o = inl (inl p)
any_or (inr n) (inl q) = inl (inr q)
any_or (inr n) (inr m) = inr (λ h. ⊎_elim n m h)

lt_or : (a b : ℕ) → (a < b) ⊎ (a < b → ⊥)
lt_or a b = ⊎_elim (λ lt. inl lt) (λ ge. inr (λ lt. absurd (omega arith))) (cases_lt a b)

forward_or : (i : Instr) (p q : ℕ) → Forward i p q ⊎ (Forward i p q → ⊥)
unfolding Forward
forward_or (Jump t) p q = both_or (is_or t q) (lt_or p t)
forward_or (JumpZ t) p q = any_or (both_or (is_or t q) (lt_or p t)) (is_or q (p + 1))
forward_or Ret p q = inr (λ h. h)
forward_or i p q = is_or q (p + 1)

pub forward_lt : (i : Instr) (p q : ℕ) → Forward i p q → p < q
unfolding Forward
forward_lt (Jump t) p q h = let e = h.0 in let l = h.1 in omega arith
forward_lt (JumpZ t) p q h = ⊎_elim (λ h. let e = h.0 in let l = h.1 in omega arith) (λ e. omega arith) h
forward_lt Ret p q h = absurd h
forward_lt i p q h = omega arith

same_instr : {a b : Instr} → Some a ≡ Some b → a ≡ b
same_instr h = cc

-- at its place a depth is known
here : (c : CodeView) (found d : List ℕ) (p : ℕ) → AreForced c d → Known c found d p → slice_index found p ≡ slice_index d p
here c found d p a known = ⊎_elim (λ e. e) (λ n. n.1 ∙ sym (a.quiet p (λ r i e f. n.0 r i (forward_lt i r p f) e f))) (known p)

pub known_more : (c : CodeView) (found new d : List ℕ) (p after : ℕ) (i : Instr) → AreForced c d → slice_get c.instrs p ≡ Some i → length found ≡ length c.instrs → length new ≡ length found → after ≡ slice_index d p - needs c i + gives i → ((q : ℕ) → q < length found → Forward i p q → slice_index new q ≡ after) → ((q : ℕ) → (Forward i p q → ⊥) → slice_index new q ≡ slice_index found q) → Known c found d p → Known c new d (p + 1)
known_more c found new d p after i a at len len' is leads others known = λ q. ⊎_elim
    (λ f. ⊎_elim
    (λ lt. inl (leads q (omega arith) f ∙ is ∙ sym (a.forced p q i at f lt)))
    (λ ge. let ld = a.long in inl (get_or_past new q 0 (omega arith) ∙ sym (get_or_past d q 0 (omega arith))))
    (cases_lt q (length c.instrs)))
    (λ no. ⊎_elim
    (λ e. inl (others q no ∙ e))
    (λ n. inr (
      λ r j lt e f. ⊎_elim
          (λ before. n.0 r j before e f)
          (λ ge.
          let same : r ≡ p = omega arith in
          let ij : j ≡ i = same_instr (sym e ∙ ap (slice_get c.instrs) same ∙ at) in
          no (subst (λ x. Forward i x q) same (subst (λ y. Forward y r q) ij f)))
          (cases_lt r p),
      others q no ∙ n.1,
    ))
    (known q))
    (forward_or i p q)

pub all_known : (c : CodeView) (found d : List ℕ) (p : ℕ) → AreForced c d → length found ≡ length c.instrs → length c.instrs ≤ p → Known c found d p → found ≡ d
all_known c found d p a len le known =
    let ld = a.long in
    same_lists found d (omega arith) (λ q x h.
    get_or_default_zero found q x h
    ∙ ⊎_elim (λ e. e) (λ n. n.1 ∙ sym (a.quiet q (λ r i e f. let w = slice_get_within c.instrs r i e in n.0 r i (omega arith) e f))) (known q)
    ∙ sym (get_or_default_zero d q x (omega arith)))

pub is_here : (c : CodeView) (found d : List ℕ) (p : ℕ) → AreForced c d → Known c found d p → slice_index found p ≡ slice_index d p
is_here = here
