use Rattle.std.proofs.Common.{rules, ◌≡◌, ◌+◌, true, refl, ap, sym, subst, ◌∙◌, List}
use Rattle.std.proofs.lemmas.List.{get_or_read}
use Rattle.exclusion_reason.specs.declared.aim.State.{State}
use Rattle.exclusion_reason.specs.declared.search.Visit.{Visit}
use Rattle.exclusion_reason.specs.Ways.{start, after}
use Rattle.exclusion_reason.specs.Seen.{is_seen}
use Rattle.exclusion_reason.specs.Visits.{visit_at, state_at, IsSearch}
use Rattle.exclusion_reason.proofs.SearchLaws.{known_search, pushed_search}
use Rattle.exclusion_reason.proofs.search.go_to.Goals as goal

pub returns-then-is_seen-clause-goes : goal.returns-then-is_seen-clause-goes
returns-then-is_seen-clause-goes c =
    let from : c.index.result.now ≡ visit_at c.args.visits.now.items c.args.head =
    get_or_read c.args.visits.now.items c.args.head c.index.result.now c.requires.head c.index.ensures (record { state = start 0; from = 0 }) in
    let to : c.after-to.result ≡ after c.args.graph.now c.args.aim (state_at c.args.visits.now.items c.args.head) c.args.m =
    c.after-to.ensures.answer ∙ ap (λ (x : Visit). after c.args.graph.now c.args.aim x.state c.args.m) from in
    let known : is_seen c.args.seen.now.items c.after-to.result ≡ true = search rules in
    λ first floor n s.
    known_search c.args.graph.now c.args.aim first c.args.head floor c.args.visits.now.items c.args.seen.now.items s c.requires.head c.args.m n.0 n.1
    (subst (λ (x : State). is_seen c.args.seen.now.items x ≡ true) to known)

pub returns-clause-goes : goal.returns-clause-goes
returns-clause-goes c =
    let from : c.index.result.now ≡ visit_at c.args.visits.now.items c.args.head =
    get_or_read c.args.visits.now.items c.args.head c.index.result.now c.requires.head c.index.ensures (record { state = start 0; from = 0 }) in
    let to : c.after-to.result ≡ after c.args.graph.now c.args.aim (state_at c.args.visits.now.items c.args.head) c.args.m =
    c.after-to.ensures.answer ∙ ap (λ (x : Visit). after c.args.graph.now c.args.aim x.state c.args.m) from in
    let v : Visit = record { state = c.after-to.result; from = c.args.head } in
    λ first floor n s.
    subst (λ (x : List Visit). IsSearch c.args.graph.now c.args.aim first c.args.head (c.args.m + 1) x c.note.new.seen.items) (sym c.in_ok-push.ensures.answer)
    (pushed_search c.args.graph.now c.args.aim first c.args.head floor c.args.visits.now.items c.args.seen.now.items c.note.new.seen.items c.args.m s c.requires.head v n.0 n.1 c.requires.edge
    (c.requires.whole.edges (state_at c.args.visits.now.items c.args.head).node c.args.m c.requires.edge) refl to c.note.ensures.only)
