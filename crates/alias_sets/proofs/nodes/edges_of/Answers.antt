use Rattle.alias_sets.specs.declared.flows.PointerVar.TheVariants as var
use Rattle.alias_sets.specs.declared.flows.Source.TheVariants as source'
use Rattle.alias_sets.specs.Numbers.{FlowNumbered}
use Rattle.alias_sets.proofs.NodeLaws.{at_place, edges_step, edges_end}
use Rattle.alias_sets.proofs.nodes.edges_of.Goals as goal

pub add_edge-requires-clause-numbered : goal.add_edge-requires-clause-numbered
add_edge-requires-clause-numbered c = at_place (FlowNumbered c.args.variables.now.keys) c.args.flows.now c.flows.flow-index _ c.requires.numbered c.flows-test.true

pub flows-preserved : goal.flows-preserved
flows-preserved c = edges_step c.args.variables.now.keys c.args.flows.now c.flows.flow-index (record { into = var.Cell 0; from = source'.Nothing }) c.flows.edges.items c.add_edge.new.edges.items c.flows-test.true c.flows.invariant c.in_ok-add_edge.ensures.kept c.in_ok-add_edge.ensures.added c.in_ok-add_edge.ensures.only

pub returns : goal.returns
returns c = record { answer = edges_end c.args.variables.now.keys c.args.flows.now c.flows.flow-index c.flows.edges.items c.flows-test.false c.flows.invariant }
