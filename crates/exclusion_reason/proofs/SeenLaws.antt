-- The states that a search has come to.
use Rattle.std.proofs.Common.{ℕ, ◌<◌, ◌≡◌, ◌⊎◌, Bool, true, false, List, length, get_or, set, replicate, arith, refl, sym, ap, ◌∙◌, subst, inl, inr, get_or-set_same, get_or-set_other}
use Rattle.std.proofs.lemmas.List.{get_or_past, get_or-replicate, length-replicate}
use Rattle.std.proofs.lemmas.Bool.{cases_eq, cases_lt}
use Rattle.exclusion_reason.specs.declared.aim.State.{State}
use Rattle.exclusion_reason.specs.declared.seen.Met.{Met}
use Rattle.exclusion_reason.specs.Seen.{holds, no_state, is_seen}

-- a state that is seen after one was noted was seen before, or is that one
pub noted : (seen : List Met) (state : State) (met : Met) → state.node < length seen →
    ((f b : Bool) → holds met f b ≡ true → (holds (get_or seen state.node no_state) f b ≡ true) ⊎ ((f ≡ state.free) × (b ≡ state.behind))) →
    (s : State) → is_seen (set seen state.node met) s ≡ true → (is_seen seen s ≡ true) ⊎ (s ≡ state)
noted seen state met l only s h =
    elim (cases_eq s.node state.node) [
      | inl e ↦
          let m : get_or (set seen state.node met) s.node no_state ≡ met = ap (λ (j : ℕ). get_or (set seen state.node met) j no_state) e ∙ get_or-set_same seen state.node met no_state l in
          elim (only s.free s.behind (subst (λ (x : Met). holds x s.free s.behind ≡ true) m h)) [
            | inl old ↦ inl (subst (λ (j : ℕ). holds (get_or seen j no_state) s.free s.behind ≡ true) (sym e) old)
            | inr p ↦ inr (λ i. record { node = e i; free = p.0 i; behind = p.1 i })
          ]
      | inr ne ↦ inl (subst (λ (x : Met). holds x s.free s.behind ≡ true) (get_or-set_other seen state.node s.node met no_state ne) h)
    ]

none_held : (f b : Bool) → holds no_state f b ≡ false
none_held false false = refl
none_held true false = refl
none_held false true = refl
none_held true true = refl

-- no state is seen where no node has one
pub none_seen : (seen : List Met) (n : ℕ) (met : Met) → seen ≡ replicate n met → ((f b : Bool) → holds met f b ≡ false) → (x : State) → is_seen seen x ≡ false
none_seen seen n met e none x =
    let read : get_or seen x.node no_state ≡ get_or (replicate n met) x.node no_state = ap (λ (s : List Met). get_or s x.node no_state) e in
    elim (cases_lt x.node n) [
      | inl l ↦ subst (λ (m : Met). holds m x.free x.behind ≡ false) (sym (read ∙ get_or-replicate n x.node met no_state l)) (none x.free x.behind)
      | inr g ↦ subst (λ (m : Met). holds m x.free x.behind ≡ false) (sym (read ∙ get_or_past (replicate n met) x.node no_state (omega (arith, g, length-replicate n met)))) (none_held x.free x.behind)
    ]
