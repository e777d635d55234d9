use Rattle.std.proofs.Common.{ℕ, Option, sym, subst, OnOk}
use Rattle.exclusion_reason.specs.Visits.{GoesOn}
use Rattle.exclusion_reason.proofs.search.go_along.Goals as goal

pub returns-in-Some-clause-goes : goal.returns-in-Some-clause-goes
returns-in-Some-clause-goes c =
    subst
    (λ (x : Option ℕ). OnOk c.go_to.result (GoesOn c.args.graph.now c.args.aim c.args.head x c.args.visits.now.items c.args.seen.now.items c.go_to.new.visits.items c.go_to.new.seen.items))
    (sym c.in-Some.is) c.go_to.ensures.goes
