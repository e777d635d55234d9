use Rattle.std.proofs.Common.{◌+◌, arith}
use Rattle.cell_sets.specs.Runs.{in_runs}
use Rattle.cell_sets.proofs.RunLaws.{past_runs, row_stretch, tested_whole}
use Rattle.cell_sets.proofs.run_list.RunList.fill.Goals as goal

pub stretches-preserved : goal.stretches-preserved
stretches-preserved g c =
    let i = c.stretches.invariant in
    record {
      within = c.stretch_to-inside.ensures.within;
      rising = c.append_if.ensures.rising;
      so_far = row_stretch (g.T.CellTest.passes c.args.test.now) (in_runs c.stretches.self) (in_runs c.append_if.new.self) c.stretches.position _ _ i.so_far
          (λ q l. past_runs 0 c.stretches.self (c.stretches.position + 1) q i.rising (omega arith)) c.stretch_to-inside.ensures.same c.append_if.ensures.added;
    }

pub returns-clause-exact : goal.returns-clause-exact
returns-clause-exact g c = tested_whole (g.T.CellTest.passes c.args.test.now) c.stretches.self c.stretches.position c.args.cells (omega arith) c.stretches.invariant.within c.stretches.invariant.rising c.stretches.invariant.so_far
