use Rattle.std.proofs.Common.{◌∙◌, ap, Err}
use Rattle.std.proofs.lemmas.Result.{err_from_is_err_and}
use Rattle.ckpt_runner.specs.Arguments.{given_by}
use Rattle.ckpt_runner.proofs.OpenLaws.{chain_leaves, refused_leaves, opens_there, resumed_opens}
use Rattle.ckpt_runner.proofs.GoodOpening.{same_standing, old_standing, old_later, standing_twice, opens_good, resumed_opens_good}
use Rattle.ckpt_runner.proofs.StandingThen.{images_first, images_after}
use Rattle.ckpt_runner.proofs.life.Life.open.Goals as goal

pub returns-in-None-clause-opens : goal.returns-in-None-clause-opens
returns-in-None-clause-opens g c =
    opens_there (given_by c.args.compiled.now c.args.marks.now c.args.input.now c.args.how) (g.D.Disk.view c.args.disk.now) (g.D.Disk.view c.open.new.disk) (g.D.Disk.view c.begin.new.disk) c.in_ok-begin-in-None.field-0 c.open.ensures.steady.tells c.open.ensures.same c.in_ok-begin-in-None.ensures.opens

pub returns-clause-opens : goal.returns-clause-opens
returns-clause-opens g c =
    resumed_opens (given_by c.args.compiled.now c.args.marks.now c.args.input.now c.args.how) (g.D.Disk.view c.args.disk.now) (g.D.Disk.view c.open.new.disk) (g.D.Disk.view c.resume.new.disk) c.resume.result c.open.ensures.steady.tells c.open.ensures.same c.resume.ensures.opens

pub returns-clause-leaves : goal.returns-clause-leaves
returns-clause-leaves g c =
    refused_leaves (g.D.Disk.view c.args.disk.now) (g.D.Disk.view c.open.new.disk) (g.D.Disk.view c.resume.new.disk) c.resume.result c.open.ensures.steady.tells
    (record { seen = c.open.ensures.same; crash = λ told. (c.open.ensures.any_moment told).now told; faults = c.in_ok-open.ensures.counts }) c.resume.ensures.leaves

pub returns-in-None-clause-good : goal.returns-in-None-clause-good
returns-in-None-clause-good g c =
    opens_good (given_by c.args.compiled.now c.args.marks.now c.args.input.now c.args.how) (g.D.Disk.view c.args.disk.now) (g.D.Disk.view c.open.new.disk) (g.D.Disk.view c.begin.new.disk) c.in_ok-begin-in-None.field-0 c.open.ensures.steady.tells c.open.ensures.same c.open.ensures.any_moment c.in_ok-begin-in-None.ensures.good

pub returns-clause-good : goal.returns-clause-good
returns-clause-good g c =
    resumed_opens_good (given_by c.args.compiled.now c.args.marks.now c.args.input.now c.args.how) (g.D.Disk.view c.args.disk.now) (g.D.Disk.view c.open.new.disk) (g.D.Disk.view c.resume.new.disk) c.resume.result c.open.ensures.steady.tells c.open.ensures.same c.open.ensures.any_moment c.resume.ensures.good

pub returns-in_err-room-clause-moments : goal.returns-in_err-room-clause-moments
returns-in_err-room-clause-moments g c = same_standing (g.D.Disk.view c.args.disk.now) (g.met.D.Disk.lawful c.args.disk.now) (g.met.D.Disk.tells_all c.args.disk.now)

pub returns-in_err-room-clause-later : goal.returns-in_err-room-clause-later
returns-in_err-room-clause-later g c = images_first (g.D.Disk.view c.args.disk.now) (g.met.D.Disk.lawful c.args.disk.now) (g.met.D.Disk.tells_all c.args.disk.now)

pub returns-in_err-rooms-clause-moments : goal.returns-in_err-rooms-clause-moments
returns-in_err-rooms-clause-moments g c = same_standing (g.D.Disk.view c.args.disk.now) (g.met.D.Disk.lawful c.args.disk.now) (g.met.D.Disk.tells_all c.args.disk.now)

pub returns-in_err-rooms-clause-later : goal.returns-in_err-rooms-clause-later
returns-in_err-rooms-clause-later g c = images_first (g.D.Disk.view c.args.disk.now) (g.met.D.Disk.lawful c.args.disk.now) (g.met.D.Disk.tells_all c.args.disk.now)

pub returns-in_err-open-clause-moments : goal.returns-in_err-open-clause-moments
returns-in_err-open-clause-moments g c = old_standing (g.D.Disk.view c.args.disk.now) (g.D.Disk.view c.open.new.disk) c.open.ensures.any_moment

pub returns-in_err-open-clause-later : goal.returns-in_err-open-clause-later
returns-in_err-open-clause-later g c = old_later (g.D.Disk.view c.args.disk.now) (g.D.Disk.view c.open.new.disk) c.open.ensures.any_moment

pub returns-in_err-begin-in-None-clause-moments : goal.returns-in_err-begin-in-None-clause-moments
returns-in_err-begin-in-None-clause-moments g c =
    standing_twice (g.D.Disk.view c.args.disk.now) (g.D.Disk.view c.open.new.disk) (g.D.Disk.view c.begin.new.disk) (g.met.D.Disk.tells_all c.args.disk.now) c.open.ensures.steady.tells (old_standing (g.D.Disk.view c.args.disk.now) (g.D.Disk.view c.open.new.disk) c.open.ensures.any_moment) c.begin.ensures.moments

pub returns-in_err-begin-in-None-clause-later : goal.returns-in_err-begin-in-None-clause-later
returns-in_err-begin-in-None-clause-later g c =
    images_after (g.D.Disk.view c.args.disk.now) (g.D.Disk.view c.open.new.disk) (g.D.Disk.view c.begin.new.disk) (g.met.D.Disk.tells_all c.args.disk.now) c.open.ensures.steady.tells (old_later (g.D.Disk.view c.args.disk.now) (g.D.Disk.view c.open.new.disk) c.open.ensures.any_moment) c.begin.ensures.later

pub returns-in-None-clause-moments : goal.returns-in-None-clause-moments
returns-in-None-clause-moments g c =
    standing_twice (g.D.Disk.view c.args.disk.now) (g.D.Disk.view c.open.new.disk) (g.D.Disk.view c.begin.new.disk) (g.met.D.Disk.tells_all c.args.disk.now) c.open.ensures.steady.tells (old_standing (g.D.Disk.view c.args.disk.now) (g.D.Disk.view c.open.new.disk) c.open.ensures.any_moment) c.begin.ensures.moments

pub returns-in-None-clause-later : goal.returns-in-None-clause-later
returns-in-None-clause-later g c =
    images_after (g.D.Disk.view c.args.disk.now) (g.D.Disk.view c.open.new.disk) (g.D.Disk.view c.begin.new.disk) (g.met.D.Disk.tells_all c.args.disk.now) c.open.ensures.steady.tells (old_later (g.D.Disk.view c.args.disk.now) (g.D.Disk.view c.open.new.disk) c.open.ensures.any_moment) c.begin.ensures.later

pub returns-clause-moments : goal.returns-clause-moments
returns-clause-moments g c =
    standing_twice (g.D.Disk.view c.args.disk.now) (g.D.Disk.view c.open.new.disk) (g.D.Disk.view c.resume.new.disk) (g.met.D.Disk.tells_all c.args.disk.now) c.open.ensures.steady.tells (old_standing (g.D.Disk.view c.args.disk.now) (g.D.Disk.view c.open.new.disk) c.open.ensures.any_moment) c.resume.ensures.moments

pub returns-clause-later : goal.returns-clause-later
returns-clause-later g c =
    images_after (g.D.Disk.view c.args.disk.now) (g.D.Disk.view c.open.new.disk) (g.D.Disk.view c.resume.new.disk) (g.met.D.Disk.tells_all c.args.disk.now) c.open.ensures.steady.tells (old_later (g.D.Disk.view c.args.disk.now) (g.D.Disk.view c.open.new.disk) c.open.ensures.any_moment) c.resume.ensures.later

pub returns-in_err-open-clause-leaves : goal.returns-in_err-open-clause-leaves
returns-in_err-open-clause-leaves g c =
    let p = err_from_is_err_and c.from_residual-in_err-open.result c.from_residual-in_err-open.ensures.1 in
    chain_leaves (g.D.Disk.view c.args.disk.now) (g.D.Disk.view c.open.new.disk) c.in_err-open.field-0.0 c.from_residual-in_err-open.result (p.1 ∙ ap Err p.2) c.open.ensures.same (λ told. (c.open.ensures.any_moment told).now told) c.in_err-open.ensures.failed
