use Rattle.std.proofs.Common.{rules, ℕ, ◌≡◌, ◌<◌, ◌≤◌, List, [], ◌∷◌, ◌++◌, length, replicate, reverse, arith, ap, sym, subst, ◌∙◌}
use Rattle.std.proofs.lemmas.List.{get_or_read, length-replicate}
use Rattle.exclusion_reason.specs.declared.search.Visit.{Visit}
use Rattle.exclusion_reason.specs.declared.seen.Met.{Met}
use Rattle.exclusion_reason.specs.Least.{IsLeast}
use Rattle.exclusion_reason.specs.Ways.{start, is_end, IsWay}
use Rattle.exclusion_reason.specs.Visits.{trail_of, visit_at, IsSearch}
use Rattle.exclusion_reason.proofs.SeenLaws.{none_seen}
use Rattle.exclusion_reason.proofs.SearchLaws.{first_search, found, none_found}
use Rattle.exclusion_reason.proofs.search.least_way.Goals as goal

pub visits-init : goal.visits-init
visits-init c =
    let v : Visit = record { state = c.start.result; from = 0 } in
    let items : c.in_ok-seen.seen.items ≡ replicate c.nodes.result c.none.result = c.in_ok-seen.ensures.items_if_clones_equal (λ y e. search rules) in
    let visits : c.push.new.visits.items ≡ v ∷ [] = c.in_ok-push.ensures.answer ∙ ap (λ (x : List Visit). x ++ v ∷ []) c.new-visits.ensures.items in
    record {
      each = ap (λ (x : List Met). length x) items ∙ length-replicate c.nodes.result c.none.result ∙ c.nodes.ensures.answer;
      search = subst (λ (x : List Visit). IsSearch c.args.graph.now c.args.aim c.args.first 0 0 x c.in_ok-seen.seen.items) (sym visits)
          (first_search c.args.graph.now c.args.aim c.args.first v c.in_ok-seen.seen.items c.start.ensures.answer c.requires.first
          (none_seen c.in_ok-seen.seen.items c.nodes.result c.none.result items c.none.ensures.none));
    }

pub returns-then-is_end : goal.returns-then-is_end
returns-then-is_end c =
    let inside : c.visits.head < length c.visits.visits.items = omega (arith, c.visits.visits.ok.0, c.len.ensures) in
    let read : c.index.result.now ≡ visit_at c.visits.visits.items c.visits.head =
    get_or_read c.visits.visits.items c.visits.head c.index.result.now inside c.index.ensures (record { state = start 0; from = 0 }) in
    let end = ap (λ (x : Visit). is_end c.args.graph.now c.args.aim x.state) (sym read) ∙ sym c.is_end.ensures.answer ∙ c.if-is_end.true in
    let walk : c.in_ok-walk_to.field-0 ≡ reverse (trail_of c.visits.visits.items c.visits.head) =
    c.in_ok-walk_to.ensures.answer ∙ ap (λ (x : List Visit). reverse (trail_of x c.visits.head)) c.deref.ensures.value in
    record {
      least = subst (λ (x : List ℕ). IsLeast (IsWay c.args.graph.now c.args.aim c.args.first) x) (sym walk)
          (found c.args.graph.now c.args.aim c.args.first c.visits.head 0 c.visits.visits.items c.visits.seen.items c.visits.invariant.search inside end);
    }

pub visits-preserved : goal.visits-preserved
visits-preserved c =
    let inside : c.visits.head < length c.visits.visits.items = omega (arith, c.visits.visits.ok.0, c.len.ensures) in
    let read : c.index.result.now ≡ visit_at c.visits.visits.items c.visits.head =
    get_or_read c.visits.visits.items c.visits.head c.index.result.now inside c.index.ensures (record { state = start 0; from = 0 }) in
    let more = ap (λ (x : Visit). is_end c.args.graph.now c.args.aim x.state) (sym read) ∙ sym c.is_end.ensures.answer ∙ c.if-is_end.false in
    record {
      each = c.in_ok-go_on.ensures.each ∙ c.visits.invariant.each;
      search = c.in_ok-go_on.ensures.goes c.args.first more c.visits.invariant.search;
    }

pub returns : goal.returns
returns c =
    let all : length c.visits.visits.items ≤ c.visits.head = omega (arith, c.visits.visits.ok.0, c.len.ensures) in
    record { least = none_found c.args.graph.now c.args.aim c.args.first c.visits.head 0 c.visits.visits.items c.visits.seen.items c.visits.invariant.search all }
