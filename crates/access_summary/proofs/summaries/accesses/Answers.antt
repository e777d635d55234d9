use Rattle.std.proofs.Common.{ℕ, List, subst}
use Rattle.cell_sets.specs.Sets.{Cells}
use Rattle.path_laws.specs.Reaching.{AllWide}
use Rattle.c_tree.specs.Layout.{cell_count}
use Rattle.access_summary.specs.CallEdges.{AreReached}
use Rattle.access_summary.proofs.SummaryLaws.{accesses_exact}
use Rattle.access_summary.proofs.summaries.accesses.Goals as goal

pub returns : goal.returns
returns c = record {
  answer = accesses_exact c.args.program.now c.args.access (cell_count c.args.program.now) c.args.bodies.now c.args.edges.now c.in_ok-goals.goals.items c.in_ok-sets.sets.items c.requires.calls c.in_ok-goals.ensures.answer
      (subst (λ (goals : List Cells). AreReached c.args.edges.now goals c.in_ok-sets.sets.items) c.deref.ensures.value c.in_ok-sets.ensures.answer)
      (subst (λ (n : ℕ). AllWide n c.in_ok-sets.sets.items) c.cells.ensures.answer c.in_ok-sets.ensures.wide);
}
