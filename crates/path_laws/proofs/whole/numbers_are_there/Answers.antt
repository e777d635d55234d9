use Rattle.std.proofs.Common.{ℕ, ◌≡◌, ◌+◌, true, subst, arith, inl, inr}
use Rattle.std.proofs.lemmas.Bool.{cases_lt}
use Rattle.path_laws.specs.Graph.{is_directive}
use Rattle.path_laws.proofs.whole.numbers_are_there.Goals as goal

pub numbers-preserved : goal.numbers-preserved
numbers-preserved c = λ j a b.
    elim (cases_lt c.numbers.k j) [
      | inr old ↦ c.numbers.invariant j a old
      | inl new ↦ let at : c.numbers.k + 1 ≡ j = omega arith in
          subst (λ (i : ℕ). (n : ℕ) × (is_directive c.args.graph.now i n ≡ true)) at (c.number_is_there.ensures.answer.0 c.if-not-number_is_there.false)
    ]
