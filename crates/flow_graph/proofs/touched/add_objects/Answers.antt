use Rattle.std.proofs.Common.{ℕ, sym, ◌∙◌}
use Rattle.alias_sets.specs.Points.{MayCome}
use Rattle.access_summary.specs.Touch.{LiesIn}
use Rattle.flow_graph.proofs.Touching.{adds_row_on_ok}
use Rattle.flow_graph.proofs.touched.add_objects.Goals as goal

pub returns-in_ok-cells-in-Variable : goal.returns-in_ok-cells-in-Variable
returns-in_ok-cells-in-Variable c = record {
  answer = adds_row_on_ok c.union_with.result (λ q. (o : ℕ) × MayCome c.args.program.now c.args.source o × LiesIn c.args.program.now o q) c.args.set.now c.in_ok-row-in-Variable.row c.add_source.new.row c.in_ok-cells-in-Variable.cells c.union_with.new.self
      c.in_ok-cells-in-Variable.ensures.answer (c.in_ok-row-in-Variable.ensures.universe ∙ c.cells.ensures.answer ∙ sym c.requires.universe) c.in_ok-row-in-Variable.ensures.answer c.in_ok-add_source-in-Variable.ensures.answer c.union_with.ensures.universe c.union_with.ensures.answer;
}
