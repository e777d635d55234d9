use Rattle.std.proofs.Common.{ℕ, ◌≤◌, subst}
use Rattle.path_laws.proofs.GraphLaws.{directive_is, directive_at}
use Rattle.path_laws.proofs.whole.number_is_in.Goals as goal

pub returns-in-Exclude : goal.returns-in-Exclude
returns-in-Exclude c = record {
  answer = (
    (λ t j e. subst (λ (k : ℕ). (1 ≤ k) × (k ≤ c.args.last)) (directive_is c.args.mark c.in-Exclude.k j c.in-Exclude.is e) (c.is_between.ensures.answer.0 t)),
    (λ h. c.is_between.ensures.answer.1 (h c.in-Exclude.k (directive_at c.args.mark c.in-Exclude.k c.in-Exclude.is))),
  );
}
