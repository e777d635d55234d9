use Rattle.std.proofs.Common.{◌<◌, length, arith, refl}
use Rattle.std.proofs.lemmas.Option.{slice_get_read}
use Rattle.access_summary.specs.Edges.{entry_in, edges_in}
use Rattle.flow_graph.proofs.Built.{as_many, built_more, built_done}
use Rattle.flow_graph.proofs.main_effects.main_effects.Goals as goal

pub bounds-works-n : goal.bounds-works-n
bounds-works-n c = omega (arith, c.nodes-test.true, c.nodes-n-end.ensures.answer, as_many c.args.program.now c.args.edges.now c.args.works.now c.requires.edges c.requires.works)

pub nodes-preserved : goal.nodes-preserved
nodes-preserved c =
    let ws = c.args.works.now in
    let n = c.nodes.n in
    let w = c.index-works-n.result in
    let lt : n < length ws = omega (arith, c.nodes-test.true, c.nodes-n-end.ensures.answer, as_many c.args.program.now c.args.edges.now ws c.requires.edges c.requires.works) in
    built_more c.args.program.now (entry_in c.args.edges.now) (edges_in c.args.edges.now) ws n c.nodes.graph c.add_node.new.graph c.next.result w
    c.next.ensures.answer (slice_get_read ws (length ws) n w refl lt c.index-works-n.is) c.nodes.invariant c.in_ok-add_node.ensures.added

pub returns : goal.returns
returns c = record {
  answer = built_done c.args.program.now c.args.edges.now c.args.works.now c.requires.edges c.requires.works c.nodes.n c.nodes.graph (omega (arith, c.nodes-test.false, c.nodes-n-end.ensures.answer, c.nodes.auto.n-end)) c.nodes.invariant;
}
