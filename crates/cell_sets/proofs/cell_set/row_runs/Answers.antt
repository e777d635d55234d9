use Rattle.std.proofs.Common.{◌+◌, arith}
use Rattle.cell_sets.specs.Sets.{has}
use Rattle.cell_sets.specs.Runs.{in_runs}
use Rattle.cell_sets.proofs.RunLaws.{past_runs, row_stretch, runs_whole}
use Rattle.cell_sets.proofs.cell_set.row_runs.Goals as goal

pub stretches-preserved : goal.stretches-preserved
stretches-preserved c =
    let i = c.stretches.invariant in
    record {
      within = c.stretch-inside.ensures.within;
      rising = c.in_ok-append_if.ensures.rising;
      so_far = row_stretch (has c.args.row.now) (in_runs c.stretches.runs.items) (in_runs c.append_if.new.out.items) c.stretches.position _ _ i.so_far
          (λ q l. past_runs 0 c.stretches.runs.items (c.stretches.position + 1) q i.rising (omega arith)) c.stretch-inside.ensures.same c.in_ok-append_if.ensures.added;
    }

pub returns-clause-same : goal.returns-clause-same
returns-clause-same c = runs_whole c.args.row.now c.stretches.runs.items c.stretches.position (omega arith) c.stretches.invariant.rising c.stretches.invariant.so_far
