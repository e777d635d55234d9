use Rattle.exclusion_equations.specs.Classes.{class_count}
use Rattle.exclusion_equations.specs.Rows.{written_at}
use Rattle.exclusion_equations.proofs.RowLaws.{rows_more}
use Rattle.exclusion_equations.proofs.equations.written_goals.Goals as goal

pub nodes-preserved : goal.nodes-preserved
nodes-preserved c =
    rows_more (class_count c.args.classes.now) c.nodes.n (written_at c.args.graph.now c.args.classes.now c.args.coming.now) c.nodes.rows.items c.push.new.rows.items c.in_ok-row.row
    c.in_ok-push.ensures.answer c.nodes.invariant c.in_ok-row.ensures.universe c.in_ok-row.ensures.answer
