use Rattle.std.proofs.Common.{subst}
use Rattle.image_format.specs.Written.{image_of}
use Rattle.disk_model.specs.Moments.{Among, LeavesOnly}
use Rattle.image_chain.specs.Lists.{IsAppended}
use Rattle.image_chain.specs.ChainView.{ChainView}
use Rattle.life_journal.specs.Recorded.{HasOneMore}
use Rattle.life_journal.proofs.journal.Journal.save.Goals as goal

pub write_all-requires-clause-fits : goal.write_all-requires-clause-fits
write_all-requires-clause-fits g c = λ tells.
    let f = c.requires.fits tells in
    (f.0, image_of c.args.fields.now c.args.runs.now c.args.frames.now, f.1, c.prepare.ensures.keeps f.0 f.1 f.2)

pub returns-in_err-write_all-clause-any_moment : goal.returns-in_err-write_all-clause-any_moment
returns-in_err-write_all-clause-any_moment g c = λ tells rs w h.
    let u = g.D.Disk.view c.args.disk.now in
    let image = image_of c.args.fields.now c.args.runs.now c.args.frames.now in
    subst (λ (x : ChainView). LeavesOnly u (g.D.Disk.view c.write_all.new.disk) (Among u.may_leave (IsAppended x.current rs image))) c.prepare.ensures.same.0 (c.write_all.ensures.any_moment tells rs image w (c.prepare.ensures.keeps rs w h))

pub returns-clause-any_moment : goal.returns-clause-any_moment
returns-clause-any_moment g c = λ tells rs w h.
    let u = g.D.Disk.view c.args.disk.now in
    let image = image_of c.args.fields.now c.args.runs.now c.args.frames.now in
    subst (λ (x : ChainView). LeavesOnly u (g.D.Disk.view c.write_all.new.disk) (Among u.may_leave (IsAppended x.current rs image))) c.prepare.ensures.same.0 (c.write_all.ensures.any_moment tells rs image w (c.prepare.ensures.keeps rs w h))

pub returns-clause-took : goal.returns-clause-took
returns-clause-took g c =
    let image = image_of c.args.fields.now c.args.runs.now c.args.frames.now in
    subst (λ (x : ChainView). HasOneMore x.current c.write_all.new.self.chain.current c.args.fields.now) c.prepare.ensures.same.0 (c.in_ok-write_all.ensures.took image c.prepare.ensures.spelled)

pub returns-clause-holds : goal.returns-clause-holds
returns-clause-holds g c = λ tells rs w h. c.in_ok-write_all.ensures.holds tells rs (image_of c.args.fields.now c.args.runs.now c.args.frames.now) w (c.prepare.ensures.keeps rs w h)
