use Rattle.std.proofs.Common.{◌<◌, length, ap, arith}
use Rattle.access_summary.specs.Edges.{FunctionEdges, body_of, edges_in}
use Rattle.flow_graph.proofs.Built.{same_number, few_works}
use Rattle.flow_graph.proofs.graphs.body_graph.Goals as goal

pub invariant_of-result : goal.invariant_of-result
invariant_of-result c = record {
  same = same_number (body_of c.args.program.now c.args.f) c.args.body.now c.in_ok-edges.edges c.in_ok-works.works c.requires.body c.in_ok-edges.ensures.answer c.in_ok-works.ensures.answer;
}

pub returns-clause-small : goal.returns-clause-small
returns-clause-small c =
    let e = c.in_ok-edges.edges in
    let few : length (edges_in e) < 4294967296 = omega (arith, c.edges-2.invariant, ap (λ (f : FunctionEdges). length (edges_in f)) c.edges-2.view_is) in
    few_works (body_of c.args.program.now c.args.f) c.args.body.now e c.in_ok-works.works c.requires.body c.in_ok-edges.ensures.answer c.in_ok-works.ensures.answer 4294967296 few
