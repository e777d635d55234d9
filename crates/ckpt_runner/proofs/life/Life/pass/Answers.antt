use Rattle.std.proofs.Common.{sym, ap, subst, ◌∙◌, ℕ, [], ◌∷◌}
use Rattle.ckpt_base.specs.Event as run
use Rattle.ckpt_runner.specs.LifeView.{LifeView}
use Rattle.ckpt_runner.specs.Passing.{PassingLeaves}
use Rattle.ckpt_runner.specs.Standing.{ServesStanding}
use Rattle.ckpt_runner.proofs.TakeLaws.{passed_serves, waits_by}
use Rattle.ckpt_runner.proofs.PassingLaws.{passed_moments}
use Rattle.ckpt_runner.proofs.StandingThen.{standing_first, images_first}
use Rattle.ckpt_runner.proofs.life.Life.pass.Goals as goal

pub returns-then-not-is_due-clause-serves : goal.returns-then-not-is_due-clause-serves
returns-then-not-is_due-clause-serves g c = λ o es.
    let old = c.args.self.now in
    passed_serves o es c.args.node old.machine.state.ticks old (g.D.Disk.view c.args.disk.now) (ap (λ (l : LifeView). l.writer) (sym c.self.view_is))
    (waits_by _ _ c.ticks-ticks.result c.every.result c.is_due.result c.self.view_is c.if-not-is_due.true c.ticks-ticks.ensures.answer c.every.ensures.answer c.is_due.ensures.answer)

pub returns-then-not-is_due-clause-any_moment : goal.returns-then-not-is_due-clause-any_moment
returns-then-not-is_due-clause-any_moment g c =
    let old = c.args.self.now in
    passed_moments c.args.node old.machine.state.ticks old (g.D.Disk.view c.args.disk.now) (g.met.D.Disk.lawful c.args.disk.now) (g.met.D.Disk.tells_all c.args.disk.now)

pub returns-in_err-take_image-clause-any_moment : goal.returns-in_err-take_image-clause-any_moment
returns-in_err-take_image-clause-any_moment g c =
    subst (λ (t : ℕ). PassingLeaves c.args.node t c.args.self.now (g.D.Disk.view c.args.disk.now) (g.D.Disk.view c.take_image.new.disk)) (c.ticks-ticks.ensures.answer ∙ ap (λ (l : LifeView). l.machine.state.ticks) c.self.view_is)
    c.take_image.ensures.any_moment

pub returns-clause-any_moment : goal.returns-clause-any_moment
returns-clause-any_moment g c =
    subst (λ (t : ℕ). PassingLeaves c.args.node t c.args.self.now (g.D.Disk.view c.args.disk.now) (g.D.Disk.view c.take_image.new.disk)) (c.ticks-ticks.ensures.answer ∙ ap (λ (l : LifeView). l.machine.state.ticks) c.self.view_is)
    c.take_image.ensures.any_moment

pub take_image-requires-clause-now : goal.take_image-requires-clause-now
take_image-requires-clause-now g c = c.ticks-ticks.ensures.answer ∙ ap (λ (l : LifeView). l.machine.state.ticks) c.self.view_is

pub returns-then-not-is_due-clause-moments : goal.returns-then-not-is_due-clause-moments
returns-then-not-is_due-clause-moments g c =
    let old = c.args.self.now in
    standing_first (run.Checkpoint c.args.node old.machine.state.ticks ∷ []) old (g.D.Disk.view c.args.disk.now) (g.met.D.Disk.lawful c.args.disk.now) (g.met.D.Disk.tells_all c.args.disk.now)

pub returns-then-not-is_due-clause-later : goal.returns-then-not-is_due-clause-later
returns-then-not-is_due-clause-later g c = images_first (g.D.Disk.view c.args.disk.now) (g.met.D.Disk.lawful c.args.disk.now) (g.met.D.Disk.tells_all c.args.disk.now)

pub returns-in_err-take_image-clause-moments : goal.returns-in_err-take_image-clause-moments
returns-in_err-take_image-clause-moments g c =
    let old = c.args.self.now in
    subst (λ (t : ℕ). ServesStanding (run.Checkpoint c.args.node t ∷ []) old (g.D.Disk.view c.args.disk.now) (g.D.Disk.view c.take_image.new.disk)) (c.ticks-ticks.ensures.answer ∙ ap (λ (l : LifeView). l.machine.state.ticks) c.self.view_is)
    c.take_image.ensures.moments

pub returns-clause-moments : goal.returns-clause-moments
returns-clause-moments g c =
    let old = c.args.self.now in
    subst (λ (t : ℕ). ServesStanding (run.Checkpoint c.args.node t ∷ []) old (g.D.Disk.view c.args.disk.now) (g.D.Disk.view c.take_image.new.disk)) (c.ticks-ticks.ensures.answer ∙ ap (λ (l : LifeView). l.machine.state.ticks) c.self.view_is)
    c.take_image.ensures.moments
