use Rattle.std.proofs.Common.{refl, sym, ap, subst, ◌∙◌, List, [], ◌∷◌}
use Rattle.ckpt_base.specs.Event as run
use Rattle.ckpt_runner.specs.LifeView.{LifeView}
use Rattle.ckpt_runner.specs.Calls.{FitsServing}
use Rattle.ckpt_runner.specs.Standing.{ServesStanding}
use Rattle.ckpt_runner.proofs.SoundLaws.{failed_sound, rests_whole}
use Rattle.ckpt_runner.proofs.GoodTaking.{flush_serves, images_beside}
use Rattle.ckpt_runner.proofs.PutLaws.{output_fits, serving_fits, put_serves, put_sound}
use Rattle.ckpt_runner.proofs.life.Life.write.Goals as goal

pub write-requires-clause-whole : goal.write-requires-clause-whole
write-requires-clause-whole g c = rests_whole _ (c.self.invariant.whole (ap (λ (l : LifeView). l.failed) c.self.view_is ∙ c.requires.live.0))

pub write-requires-clause-fits : goal.write-requires-clause-fits
write-requires-clause-fits g c =
    let u = g.D.Disk.view c.args.disk.now in
    let shown : List run.Event = run.Byte c.args.byte ∷ [] in
    output_fits c.self.inside.journal u (serving_fits shown _ u refl (subst (λ (l : LifeView). FitsServing shown l u) (sym c.self.view_is) c.requires.fits))

pub invariant_of-self : goal.invariant_of-self
invariant_of-self g c = failed_sound _ c.write.new.self c.self.inside.finished c.self.invariant

pub invariant_of-self-2 : goal.invariant_of-self-2
invariant_of-self-2 g c =
    put_sound _ c.write.new.self (c.args.byte ∷ []) (ap (λ (l : LifeView). l.failed) c.self.view_is ∙ c.requires.live.0) c.self.invariant c.write.ensures.same.0 (c.in_ok-write.ensures.state ∙ c.self.invariant.whole (ap (λ (l : LifeView). l.failed) c.self.view_is ∙ c.requires.live.0)) c.in_ok-write.ensures.count

pub returns-clause-serves : goal.returns-clause-serves
returns-clause-serves g c = λ o es.
    put_serves o es (c.args.byte ∷ []) (c.args.byte ∷ []) _ _ c.write.new.self (g.D.Disk.view c.args.disk.now) (g.D.Disk.view c.write.new.disk) c.self.view_is refl refl
    c.write.ensures.same.0 c.in_ok-write.ensures.count c.in_ok-write.ensures.lasting c.write.ensures.any_moment c.in_ok-write.ensures.holds

pub returns-in_err-write-clause-moments : goal.returns-in_err-write-clause-moments
returns-in_err-write-clause-moments g c =
    let u = g.D.Disk.view c.args.disk.now in
    let v = g.D.Disk.view c.write.new.disk in
    let shown : List run.Event = run.Byte c.args.byte ∷ [] in
    subst (λ (l : LifeView). ServesStanding shown l u v) c.self.view_is (flush_serves shown _ u v c.write.ensures.any_moment)

pub returns-in_err-write-clause-later : goal.returns-in_err-write-clause-later
returns-in_err-write-clause-later g c = images_beside c.self.inside.journal (g.D.Disk.view c.args.disk.now) (g.D.Disk.view c.write.new.disk) c.write.ensures.any_moment

pub returns-clause-moments : goal.returns-clause-moments
returns-clause-moments g c =
    let u = g.D.Disk.view c.args.disk.now in
    let v = g.D.Disk.view c.write.new.disk in
    let shown : List run.Event = run.Byte c.args.byte ∷ [] in
    subst (λ (l : LifeView). ServesStanding shown l u v) c.self.view_is (flush_serves shown _ u v c.write.ensures.any_moment)

pub returns-clause-later : goal.returns-clause-later
returns-clause-later g c = images_beside c.self.inside.journal (g.D.Disk.view c.args.disk.now) (g.D.Disk.view c.write.new.disk) c.write.ensures.any_moment
