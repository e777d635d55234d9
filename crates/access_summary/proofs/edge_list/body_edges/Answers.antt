use Rattle.std.proofs.Common.{◌≡◌, ◌+◌, length, ap, ◌∙◌, arith}
use Rattle.c_tree.specs.Nodes.{node_count}
use Rattle.access_summary.specs.Edges.{FunctionEdges, edges_of_body}
use Rattle.access_summary.proofs.Lay.{whole, body_sized}
use Rattle.access_summary.proofs.edge_list.body_edges.Goals as goal

is_whole : (c : goal.In_ok-next) → (c.in_ok-entry.entry, c.in_ok-next.next) ≡ edges_of_body c.args.body.now
is_whole c = whole c.node_count-end.result c.in_ok-entry.entry c.args.body.now c.new-laid.result c.push.new.self c.lay.new.edges c.in_ok-next.next c.node_count-end.ensures.answer c.new-laid.ensures c.in_ok-push.ensures.ok c.in_ok-entry.ensures.laid c.in_ok-next.ensures.answer

pub invariant_of-result : goal.invariant_of-result
invariant_of-result c =
    let e : length c.in_ok-next.next ≡ node_count c.args.body.now + 1 = ap (λ (x : FunctionEdges). length x.1) (is_whole c) ∙ body_sized c.args.body.now in
    omega (arith, c.requires.fits)

pub returns : goal.returns
returns c = record { answer = is_whole c }
