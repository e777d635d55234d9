use Rattle.std.proofs.Common.{sym, ◌∙◌}
use Rattle.ckpt_runner.specs.Arguments.{given_as}
use Rattle.ckpt_runner.proofs.RecoveredLaws.{occupied_refuses}
use Rattle.ckpt_runner.proofs.resuming.recovered.Goals as goal

pub returns-in-Run-clause-err : goal.returns-in-Run-clause-err
returns-in-Run-clause-err g c = λ told.
    let found = c.requires.rests told in
    occupied_refuses (given_as c.args.given.now) c.args.chain.now.current found.0 (g.D.Disk.view c.args.disk.now).seen c.unwrap-newest.result c.in-Run.is found.1.1.1.keeps (c.tells.ensures.reads told found.0 found.1)
    (sym c.newest.ensures.answer ∙ c.unwrap-newest.ensures)
