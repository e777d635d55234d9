use Rattle.std.proofs.Common.{◌∙◌}
use Rattle.flow_graph.proofs.EffectLaws.{kills_if_ok}
use Rattle.flow_graph.proofs.node_effects.store_kills.Goals as goal

pub returns-in_ok-add_touched-in-Some : goal.returns-in_ok-add_touched-in-Some
returns-in_ok-add_touched-in-Some c = record {
  answer = kills_if_ok c.only_cell.result c.args.program.now c.args.target c.in-Some.target c.in_ok-set.set c.add_touched.new.set c.in-Some.is (c.in_ok-set.ensures.universe ∙ c.cells.ensures.answer) c.in_ok-set.ensures.answer c.in_ok-add_touched-in-Some.ensures.answer c.only_cell.ensures.universe c.only_cell.ensures.answer;
}
