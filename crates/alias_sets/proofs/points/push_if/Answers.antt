use Rattle.std.proofs.Common.{sym, subst, List, ℕ}
use Rattle.std.specs.List.Sorted.{IsStrictlyIncreasing}
use Rattle.alias_sets.proofs.Lists.{rising_push}
use Rattle.alias_sets.proofs.points.push_if.Goals as goal

pub returns-clause-rising : goal.returns-clause-rising
returns-clause-rising c = subst (λ (xs : List ℕ). IsStrictlyIncreasing xs) (sym c.in_ok-push.ensures.items) (rising_push c.args.objects.now.items c.args.object c.requires.rising c.requires.below)
