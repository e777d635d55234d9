use Rattle.std.proofs.Common.{◌+◌, arith}
use Rattle.cell_sets.proofs.RunLaws.{run_within}
use Rattle.cell_sets.proofs.bit_row.BitRow.of_runs.Goals as goal

pub set_range-requires : goal.set_range-requires
set_range-requires c =
    let w = run_within c.args.runs.now 0 (c.args.width + 1) c.runs.run-index (record { first = 0; count = 0 }) c.requires.rising (omega arith) in
    let u = c.runs.invariant.universe in
    record { within = omega arith }
