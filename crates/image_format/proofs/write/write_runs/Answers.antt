use Rattle.image_format.proofs.WriteLaws.{left_cells}
use Rattle.image_format.proofs.write.write_runs.Goals as goal

pub write_run-requires-clause-cells : goal.write_run-requires-clause-cells
write_run-requires-clause-cells c = left_cells c.args.runs.now c.loop-run.run-index _ _ c.loop-run-test.true c.loop-run.invariant.cells

pub write_run-requires-clause-bound : goal.write_run-requires-clause-bound
write_run-requires-clause-bound c = left_cells c.args.runs.now c.loop-run.run-index _ 262144 c.loop-run-test.true c.loop-run.invariant.rising
