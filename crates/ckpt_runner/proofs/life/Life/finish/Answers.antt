use Rattle.std.proofs.Common.{refl, sym, ap, subst, ◌∙◌, [], true, IsTrue, le_of_eq}
use Rattle.output_file.specs.Pushed.{length_of}
use Rattle.disk_model.specs.Moments.{Among, LeavesOnly}
use Rattle.output_file.specs.OnDisk.{IsBehind}
use Rattle.ckpt_runner.specs.LifeView.{LifeView}
use Rattle.ckpt_runner.specs.Lives.{Lives}
use Rattle.ckpt_runner.specs.Keeps.{Kept}
use Rattle.ckpt_runner.specs.Calls.{FitsDisk}
use Rattle.ckpt_runner.specs.Standing.{KeepsStanding}
use Rattle.ckpt_runner.proofs.SoundLaws.{failed_sound, ended_sound, flushed_length, rests_whole}
use Rattle.ckpt_runner.proofs.FinishLaws.{ended_lives, ended_kept, ended_good, ended_ends, journal_fits}
use Rattle.ckpt_runner.proofs.PutLaws.{output_fits}
use Rattle.ckpt_runner.proofs.GoodTaking.{flush_serves, images_beside}
use Rattle.ckpt_runner.proofs.life.Life.finish.Goals as goal

pub flush-requires-clause-whole : goal.flush-requires-clause-whole
flush-requires-clause-whole g c = rests_whole _ (c.self.invariant.whole (ap (λ (l : LifeView). l.failed) c.self.view_is ∙ c.requires.whole))

pub flush-requires-clause-fits : goal.flush-requires-clause-fits
flush-requires-clause-fits g c =
    let u = g.D.Disk.view c.args.disk.now in
    output_fits c.self.inside.journal u (journal_fits _ u refl (subst (λ (l : LifeView). FitsDisk l u) (sym c.self.view_is) c.requires.fits))

pub invariant_of-self : goal.invariant_of-self
invariant_of-self g c = failed_sound _ c.flush.new.self true c.self.invariant

pub invariant_of-self-2 : goal.invariant_of-self-2
invariant_of-self-2 g c =
    ended_sound _ c.flush.new.self (ap (λ (l : LifeView). l.failed) c.self.view_is ∙ c.requires.whole) c.self.invariant c.flush.ensures.same.0 (c.in_ok-flush.ensures.state ∙ c.self.invariant.whole (ap (λ (l : LifeView). l.failed) c.self.view_is ∙ c.requires.whole))
    (le_of_eq (sym (ap length_of c.in_ok-flush.ensures.exact ∙ flushed_length c.self.inside.journal.output)))

pub returns-clause-same : goal.returns-clause-same
returns-clause-same g c = λ o es h.
    ended_lives o es _ c.flush.new.self c.flush.ensures.same.0 (ap length_of c.in_ok-flush.ensures.exact ∙ flushed_length c.self.inside.journal.output)
    (subst (λ (l : LifeView). Lives o es l) (sym c.self.view_is) h)

pub returns-clause-kept : goal.returns-clause-kept
returns-clause-kept g c = λ told o es h k.
    let u = g.D.Disk.view c.args.disk.now in
    ended_kept o es _ c.flush.new.self u (g.D.Disk.view c.flush.new.disk) refl (c.in_ok-flush.ensures.holds told) (subst (λ (l : LifeView). Kept o es l u) (sym c.self.view_is) k)

pub returns-clause-any_moment : goal.returns-clause-any_moment
returns-clause-any_moment g c = λ told.
    let u = g.D.Disk.view c.args.disk.now in
    subst (λ (l : LifeView). LeavesOnly u (g.D.Disk.view c.flush.new.disk) (Among u.may_leave (IsBehind l.journal.output.lasting))) c.self.view_is (c.flush.ensures.any_moment told)

pub returns-in_err-flush-clause-moments : goal.returns-in_err-flush-clause-moments
returns-in_err-flush-clause-moments g c =
    let u = g.D.Disk.view c.args.disk.now in
    let v = g.D.Disk.view c.flush.new.disk in
    subst (λ (l : LifeView). KeepsStanding l u v) c.self.view_is (flush_serves [] _ u v c.flush.ensures.any_moment)

pub returns-in_err-flush-clause-later : goal.returns-in_err-flush-clause-later
returns-in_err-flush-clause-later g c = images_beside c.self.inside.journal (g.D.Disk.view c.args.disk.now) (g.D.Disk.view c.flush.new.disk) c.flush.ensures.any_moment

pub returns-clause-moments : goal.returns-clause-moments
returns-clause-moments g c =
    let u = g.D.Disk.view c.args.disk.now in
    let v = g.D.Disk.view c.flush.new.disk in
    subst (λ (l : LifeView). KeepsStanding l u v) c.self.view_is (flush_serves [] _ u v c.flush.ensures.any_moment)

pub returns-clause-later : goal.returns-clause-later
returns-clause-later g c = images_beside c.self.inside.journal (g.D.Disk.view c.args.disk.now) (g.D.Disk.view c.flush.new.disk) c.flush.ensures.any_moment

pub returns-clause-good : goal.returns-clause-good
returns-clause-good g c = λ told s o es good.
    let u = g.D.Disk.view c.args.disk.now in
    ended_good _ _ c.self.view_is c.flush.new.self u (g.D.Disk.view c.flush.new.disk) c.flush.ensures.same.0 c.in_ok-flush.ensures.exact c.in_ok-flush.ensures.holds c.flush.ensures.any_moment told s o es good

pub returns-clause-ends : goal.returns-clause-ends
returns-clause-ends g c =
    let u = g.D.Disk.view c.args.disk.now in
    let v = g.D.Disk.view c.flush.new.disk in
    ended_ends _ _ c.self.view_is c.flush.new.self u v c.flush.ensures.same.0 c.in_ok-flush.ensures.exact c.in_ok-flush.ensures.holds c.flush.ensures.any_moment
    (λ told. g.met.D.Disk.lawful c.flush.new.disk (subst IsTrue (sym c.flush.ensures.steady.tells) told))
