use Rattle.ckpt_runner.specs.Arguments.{given_by}
use Rattle.std.proofs.Common.{subst, sym, IsTrue}
use Rattle.one_life.proofs.LiveLaws.{opened_fits, life_ran, life_ran_on}
use Rattle.one_life.proofs.SourceLaws.{opens_standing, lives_standing, lives_as_source}
use Rattle.ckpt_runner.proofs.StandingThen.{images_after}
use Rattle.one_life.proofs.living.live.Goals as goal

pub live_on-requires-clause-fits : goal.live_on-requires-clause-fits
live_on-requires-clause-fits g c =
    let given = given_by c.args.compiled.now c.args.marks.now c.args.input.now c.args.how in
    let old = g.D.Disk.view c.args.disk.now in
    opened_fits given old.seen c.in_ok-life.life old (g.D.Disk.view c.open.new.disk) c.open.ensures.steady.tells c.in_ok-life.ensures.opens

pub returns-in-Ok-clause-ran : goal.returns-in-Ok-clause-ran
returns-in-Ok-clause-ran g c =
    let given = given_by c.args.compiled.now c.args.marks.now c.args.input.now c.args.how in
    life_ran given c.in_ok-life.life c.in-Ok.lived (g.D.Disk.view c.open.new.disk) (g.D.Disk.view c.live_on.new.disk) c.in-Ok.ensures.started c.in-Ok.ensures.goes c.in_ok-life.ensures.lives

pub returns-in-Ok-clause-told : goal.returns-in-Ok-clause-told
returns-in-Ok-clause-told g c = λ told.
    let given = given_by c.args.compiled.now c.args.marks.now c.args.input.now c.args.how in
    let old = g.D.Disk.view c.args.disk.now in
    life_ran_on given old.seen c.in_ok-life.life c.in-Ok.lived (g.D.Disk.view c.open.new.disk) (g.D.Disk.view c.live_on.new.disk) c.in-Ok.ensures.started c.in-Ok.ensures.goes
    (subst IsTrue (sym c.open.ensures.steady.tells) told) (c.in_ok-life.ensures.opens told)

pub returns-in-Ok-clause-as_source : goal.returns-in-Ok-clause-as_source
returns-in-Ok-clause-as_source g c =
    let given = given_by c.args.compiled.now c.args.marks.now c.args.input.now c.args.how in
    lives_as_source given c.in_ok-life.life c.in-Ok.lived (g.D.Disk.view c.args.disk.now) (g.D.Disk.view c.open.new.disk) (g.D.Disk.view c.live_on.new.disk) c.open.ensures.steady.tells c.in-Ok.ensures.started c.in_ok-life.ensures.good c.in-Ok.ensures.ends

pub returns-in_err-life-clause-moments : goal.returns-in_err-life-clause-moments
returns-in_err-life-clause-moments g c =
    opens_standing (g.D.Disk.view c.args.disk.now) (g.D.Disk.view c.open.new.disk) (given_by c.args.compiled.now c.args.marks.now c.args.input.now c.args.how) c.open.ensures.moments

pub returns-in-Ok-clause-moments : goal.returns-in-Ok-clause-moments
returns-in-Ok-clause-moments g c =
    let given = given_by c.args.compiled.now c.args.marks.now c.args.input.now c.args.how in
    lives_standing given c.in_ok-life.life (g.D.Disk.view c.args.disk.now) (g.D.Disk.view c.open.new.disk) (g.D.Disk.view c.live_on.new.disk) (g.met.D.Disk.tells_all c.args.disk.now) c.open.ensures.steady.tells c.open.ensures.moments
    c.in_ok-life.ensures.good c.live_on.ensures.moments

pub returns-in-Ok-clause-later : goal.returns-in-Ok-clause-later
returns-in-Ok-clause-later g c =
    images_after (g.D.Disk.view c.args.disk.now) (g.D.Disk.view c.open.new.disk) (g.D.Disk.view c.live_on.new.disk) (g.met.D.Disk.tells_all c.args.disk.now) c.open.ensures.steady.tells c.open.ensures.later c.live_on.ensures.later

pub returns-clause-moments : goal.returns-clause-moments
returns-clause-moments g c =
    let given = given_by c.args.compiled.now c.args.marks.now c.args.input.now c.args.how in
    lives_standing given c.in_ok-life.life (g.D.Disk.view c.args.disk.now) (g.D.Disk.view c.open.new.disk) (g.D.Disk.view c.live_on.new.disk) (g.met.D.Disk.tells_all c.args.disk.now) c.open.ensures.steady.tells c.open.ensures.moments
    c.in_ok-life.ensures.good c.live_on.ensures.moments

pub returns-clause-later : goal.returns-clause-later
returns-clause-later g c =
    images_after (g.D.Disk.view c.args.disk.now) (g.D.Disk.view c.open.new.disk) (g.D.Disk.view c.live_on.new.disk) (g.met.D.Disk.tells_all c.args.disk.now) c.open.ensures.steady.tells c.open.ensures.later c.live_on.ensures.later
