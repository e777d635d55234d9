use Rattle.std.proofs.Common.{refl}
use Rattle.drilled_lives.proofs.GoingLaws.{finish_ends, stands_then, loses_none}
use Rattle.drilled_lives.proofs.going.finish.Goals as goal

pub returns-clause-comes : goal.returns-clause-comes
returns-clause-comes g c = λ s o es until at.
    let v = g.D.Disk.view c.args.disk.now in
    let w = g.D.Disk.view c.finish.new.disk in
    finish_ends s o es until c.args.ending _ c.args.life.now c.finish.new.self v w c.finish.ensures.steady.tells (g.met.D.Disk.lawful c.finish.new.disk) refl c.ticks-steps.ensures.answer c.in_ok-finish.ensures.ends c.in_ok-finish.ensures.good at

pub returns-clause-stand : goal.returns-clause-stand
returns-clause-stand g c = λ s o es l. stands_then s o es c.args.life.now (g.D.Disk.view c.args.disk.now) (g.D.Disk.view c.finish.new.disk) c.finish.ensures.moments l

pub returns-clause-later : goal.returns-clause-later
returns-clause-later g c = loses_none (g.D.Disk.view c.args.disk.now) (g.D.Disk.view c.finish.new.disk) c.finish.ensures.later

pub returns-in_err-finish-clause-stand : goal.returns-in_err-finish-clause-stand
returns-in_err-finish-clause-stand g c = λ s o es l. stands_then s o es c.args.life.now (g.D.Disk.view c.args.disk.now) (g.D.Disk.view c.finish.new.disk) c.finish.ensures.moments l

pub returns-in_err-finish-clause-later : goal.returns-in_err-finish-clause-later
returns-in_err-finish-clause-later g c = loses_none (g.D.Disk.view c.args.disk.now) (g.D.Disk.view c.finish.new.disk) c.finish.ensures.later
