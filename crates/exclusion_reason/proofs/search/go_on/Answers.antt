use Rattle.std.proofs.Common.{ℕ, Option, ◌≡◌, ◌||◌, ap, ◌∙◌}
use Rattle.std.proofs.lemmas.List.{get_or_read}
use Rattle.path_laws.specs.Edge.{is_at}
use Rattle.path_laws.specs.Graph.{next_of}
use Rattle.exclusion_reason.specs.declared.search.Visit.{Visit}
use Rattle.exclusion_reason.specs.Ways.{start}
use Rattle.exclusion_reason.specs.Visits.{visit_at, state_at}
use Rattle.exclusion_reason.proofs.SearchLaws.{both_edges}
use Rattle.exclusion_reason.proofs.search.go_on.Goals as goal

pub returns-clause-goes : goal.returns-clause-goes
returns-clause-goes c =
    let from : c.index.result.now ≡ visit_at c.args.visits.now.items c.args.head =
    get_or_read c.args.visits.now.items c.args.head c.index.result.now c.requires.head c.index.ensures (record { state = start 0; from = 0 }) in
    let next : c.next.result ≡ next_of c.args.graph.now (state_at c.args.visits.now.items c.args.head).node =
    c.next.ensures.answer ∙ ap (λ (x : Visit). next_of c.args.graph.now x.state.node) from in
    λ first e s.
    both_edges c.args.graph.now c.args.aim first c.args.head c.args.visits.now.items c.args.seen.now.items c.go_along.new.visits.items c.go_along.new.seen.items
    c.go_along-2.new.visits.items c.go_along-2.new.seen.items c.in_order-low.result.0 c.in_order-low.result.1
    (λ m. c.in_order-low.ensures.same m ∙ ap (λ (x : Option ℕ × Option ℕ). is_at x.0 m || is_at x.1 m) next)
    c.in_order-low.ensures.rise c.requires.head c.in_ok-go_along.ensures.kept c.in_ok-go_along-2.ensures.kept c.in_ok-go_along.ensures.goes c.in_ok-go_along-2.ensures.goes e s
