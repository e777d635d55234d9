use Rattle.std.proofs.Common.{◌<◌, refl, sym, ap, subst, ◌∙◌, List, [], ◌∷◌}
use Rattle.ckpt_base.specs.Event as run
use Rattle.image_format.specs.declared.header.Header.{Header}
use Rattle.image_format.specs.Written.{image_of}
use Rattle.output_file.specs.Pushed.{length_of}
use Rattle.ckpt_runner.specs.LifeView.{LifeView}
use Rattle.ckpt_runner.specs.Calls.{FitsServing}
use Rattle.ckpt_runner.proofs.PutLaws.{serving_fits}
use Rattle.ckpt_runner.proofs.TakeLaws.{fits_then, saved_holds, since_of, image_follows, image_ranges, image_rises, image_has_cells, record_now, IsDueNow, imaged_serves, image_sound}
use Rattle.ckpt_runner.specs.Passing.{PassingLeaves}
use Rattle.ckpt_runner.specs.Standing.{ServesStanding}
use Rattle.ckpt_runner.proofs.PassingLaws.{is_taken, prepared_moments, imaged_moments}
use Rattle.ckpt_runner.proofs.GoodTaking.{ready_serves, passes_now, save_serves, saved_good, images_saved}
use Rattle.ckpt_runner.proofs.StandingThen.{images_after}
use Rattle.ckpt_runner.proofs.life.Life.take_image.Goals as goal

pub save-requires-clause-fits : goal.save-requires-clause-fits
save-requires-clause-fits g c =
    let u = g.D.Disk.view c.args.disk.now in
    let shown : List run.Event = run.Checkpoint c.args.node c.args.ticks ∷ [] in
    fits_then c.self.inside.journal c.make_ready.new.journal u (g.D.Disk.view c.make_ready.new.disk) c.make_ready.ensures.steady.tells
    (serving_fits shown _ u refl (subst (λ (l : LifeView). FitsServing shown l u) (sym c.self.view_is) c.requires.fits)) c.in_ok-make_ready.ensures.holds

pub save-requires-clause-follows : goal.save-requires-clause-follows
save-requires-clause-follows g c =
    let n = c.output_length-written.result in
    image_follows _ c.make_ready.new.journal.chain.current.newest c.fields_of-fields.result c.args.node c.args.ticks n c.self.invariant (ap (λ (l : LifeView). l.failed) c.self.view_is ∙ c.requires.live.0)
    c.in_ok-make_ready.ensures.newest (c.output_length-written.ensures.answer ∙ c.in_ok-make_ready.ensures.written)
    (subst (λ (l : LifeView). l.progress.newest_tick < c.args.ticks) (sym c.self.view_is) c.requires.later) (c.fields_of-fields.ensures.answer (since_of c.self.inside.progress n) refl refl)

pub save-requires-clause-ranges : goal.save-requires-clause-ranges
save-requires-clause-ranges g c =
    let n = c.output_length-written.result in
    image_ranges _ c.fields_of-fields.result c.args.node c.args.ticks n c.self.invariant c.requires.node
    (subst (λ (l : LifeView). l.progress.newest_tick < c.args.ticks) (sym c.self.view_is) c.requires.later) (c.fields_of-fields.ensures.answer (since_of c.self.inside.progress n) refl refl)

pub save-requires-clause-rising : goal.save-requires-clause-rising
save-requires-clause-rising g c = image_rises _ c.find_cells.new.runs c.as_slice.result.now c.self.invariant c.as_slice.ensures.answer c.find_cells.ensures.rising

pub save-requires-clause-cells : goal.save-requires-clause-cells
save-requires-clause-cells g c = image_has_cells _ c.find_cells.new.runs c.as_slice.result.now c.self.invariant c.as_slice.ensures.answer c.find_cells.ensures.rising

pub invariant_of-self-2 : goal.invariant_of-self-2
invariant_of-self-2 g c =
    let n = c.output_length-written.result in
    image_sound _ c.save.new.self c.take.new.self c.protect_all.new.self c.fields_of-fields.result c.args.node c.args.ticks n c.self.invariant c.take.ensures.exact c.protect_all.ensures.exact c.in_ok-save.ensures.whole
    c.in_ok-save.ensures.took.newest_is (c.fields_of-fields.ensures.answer (since_of c.self.inside.progress n) refl refl) (c.output_length-written.ensures.answer ∙ ap length_of (sym c.save.ensures.same))

pub returns-clause-serves : goal.returns-clause-serves
returns-clause-serves g c = λ o es.
    let u = g.D.Disk.view c.args.disk.now in
    let v = g.D.Disk.view c.make_ready.new.disk in
    let x = g.D.Disk.view c.save.new.disk in
    let fields = c.fields_of-fields.result in
    let cells = c.as_slice.result.now in
    let r = image_of fields cells c.self.inside.memory.frames in
    let n = c.output_length-written.result in
    let follows =
    image_follows _ c.make_ready.new.journal.chain.current.newest fields c.args.node c.args.ticks n c.self.invariant (ap (λ (l : LifeView). l.failed) c.self.view_is ∙ c.requires.live.0)
    c.in_ok-make_ready.ensures.newest (c.output_length-written.ensures.answer ∙ c.in_ok-make_ready.ensures.written)
    (subst (λ (l : LifeView). l.progress.newest_tick < c.args.ticks) (sym c.self.view_is) c.requires.later) (c.fields_of-fields.ensures.answer (since_of c.self.inside.progress n) refl refl) in
    let now = c.requires.now ∙ ap (λ (l : LifeView). l.machine.state.ticks) (sym c.self.view_is) in
    imaged_serves o es c.args.node c.args.ticks _ _ c.save.new.self c.take.new.self c.protect_all.new.self u x r c.self.view_is refl c.take.ensures.exact c.protect_all.ensures.exact
    (ap (λ (h : Header). h.every) c.in_ok-save.ensures.took.header ∙ c.in_ok-make_ready.ensures.every) (ap length_of c.save.ensures.same ∙ c.in_ok-make_ready.ensures.written)
    (subst (λ (l : LifeView). IsDueNow l c.args.ticks) (sym c.self.view_is) c.requires.due)
    (λ h. record_now o es _ c.args.node c.args.ticks c.output_length-written.result _ fields c.find_cells.new.runs cells c.self.invariant h c.fields_of-fields.ensures.answer
    (c.output_length-written.ensures.answer ∙ c.in_ok-make_ready.ensures.written) c.as_slice.ensures.answer c.find_cells.ensures.exact c.save.ensures.words)
    (saved_holds c.self.inside.journal c.make_ready.new.journal c.save.new.self u v x r c.make_ready.ensures.steady.tells c.in_ok-make_ready.ensures.holds c.in_ok-save.ensures.holds)
    (λ told h s is of good. saved_good _ c.make_ready.new.journal u v c.make_ready.ensures.steady.tells c.in_ok-make_ready.ensures.flushed c.make_ready.ensures.moments c.in_ok-make_ready.ensures.stays
    c.images_of_lives_stand.ensures.law c.args.node c.args.ticks now r follows
    (λ o es h. passes_now o es c.args.node c.args.ticks n _ fields c.find_cells.new.runs cells c.self.invariant now (subst (λ (l : LifeView). IsDueNow l c.args.ticks) (sym c.self.view_is) c.requires.due) c.fields_of-fields.ensures.answer
    (c.output_length-written.ensures.answer ∙ c.in_ok-make_ready.ensures.written) c.as_slice.ensures.answer c.find_cells.ensures.exact c.save.ensures.words h)
    x c.save.ensures.any_moment
    c.save.new.self c.in_ok-save.ensures.holds c.save.ensures.same (ap (λ (h : Header). h.every) c.in_ok-save.ensures.took.header) told o es h s is of good)

pub returns-in_err-make_ready-clause-any_moment : goal.returns-in_err-make_ready-clause-any_moment
returns-in_err-make_ready-clause-any_moment g c =
    let u = g.D.Disk.view c.args.disk.now in
    let v = g.D.Disk.view c.make_ready.new.disk in
    subst (λ (l : LifeView). PassingLeaves c.args.node c.args.ticks l u v) c.self.view_is
    (prepared_moments c.args.node c.args.ticks _ u v (subst (λ (l : LifeView). IsDueNow l c.args.ticks) (sym c.self.view_is) c.requires.due) c.make_ready.ensures.any_moment)

pub returns-in_err-save-clause-any_moment : goal.returns-in_err-save-clause-any_moment
returns-in_err-save-clause-any_moment g c =
    let u = g.D.Disk.view c.args.disk.now in
    let v = g.D.Disk.view c.make_ready.new.disk in
    let x = g.D.Disk.view c.save.new.disk in
    let fields = c.fields_of-fields.result in
    let cells = c.as_slice.result.now in
    let frames = c.self.inside.memory.frames in
    subst (λ (l : LifeView). PassingLeaves c.args.node c.args.ticks l u x) c.self.view_is
    (imaged_moments c.args.node c.args.ticks _ c.make_ready.new.journal u v x (image_of fields cells frames) c.make_ready.ensures.steady.tells
    (subst (λ (l : LifeView). IsDueNow l c.args.ticks) (sym c.self.view_is) c.requires.due) c.in_ok-make_ready.ensures.every c.make_ready.ensures.any_moment c.in_ok-make_ready.ensures.ready c.in_ok-make_ready.ensures.holds
    c.save.ensures.any_moment
    (λ o es h. is_taken fields cells frames _ (record_now o es _ c.args.node c.args.ticks c.output_length-written.result _ fields c.find_cells.new.runs cells c.self.invariant h c.fields_of-fields.ensures.answer
    (c.output_length-written.ensures.answer ∙ c.in_ok-make_ready.ensures.written) c.as_slice.ensures.answer c.find_cells.ensures.exact c.save.ensures.words) c.save.ensures.words))

pub returns-clause-any_moment : goal.returns-clause-any_moment
returns-clause-any_moment g c =
    let u = g.D.Disk.view c.args.disk.now in
    let v = g.D.Disk.view c.make_ready.new.disk in
    let x = g.D.Disk.view c.save.new.disk in
    let fields = c.fields_of-fields.result in
    let cells = c.as_slice.result.now in
    let frames = c.self.inside.memory.frames in
    subst (λ (l : LifeView). PassingLeaves c.args.node c.args.ticks l u x) c.self.view_is
    (imaged_moments c.args.node c.args.ticks _ c.make_ready.new.journal u v x (image_of fields cells frames) c.make_ready.ensures.steady.tells
    (subst (λ (l : LifeView). IsDueNow l c.args.ticks) (sym c.self.view_is) c.requires.due) c.in_ok-make_ready.ensures.every c.make_ready.ensures.any_moment c.in_ok-make_ready.ensures.ready c.in_ok-make_ready.ensures.holds
    c.save.ensures.any_moment
    (λ o es h. is_taken fields cells frames _ (record_now o es _ c.args.node c.args.ticks c.output_length-written.result _ fields c.find_cells.new.runs cells c.self.invariant h c.fields_of-fields.ensures.answer
    (c.output_length-written.ensures.answer ∙ c.in_ok-make_ready.ensures.written) c.as_slice.ensures.answer c.find_cells.ensures.exact c.save.ensures.words) c.save.ensures.words))

pub returns-in_err-make_ready-clause-moments : goal.returns-in_err-make_ready-clause-moments
returns-in_err-make_ready-clause-moments g c =
    let u = g.D.Disk.view c.args.disk.now in
    let v = g.D.Disk.view c.make_ready.new.disk in
    let shown : List run.Event = run.Checkpoint c.args.node c.args.ticks ∷ [] in
    subst (λ (l : LifeView). ServesStanding shown l u v) c.self.view_is (ready_serves shown _ u v c.make_ready.ensures.moments)

pub returns-in_err-save-clause-moments : goal.returns-in_err-save-clause-moments
returns-in_err-save-clause-moments g c =
    let u = g.D.Disk.view c.args.disk.now in
    let v = g.D.Disk.view c.make_ready.new.disk in
    let x = g.D.Disk.view c.save.new.disk in
    let fields = c.fields_of-fields.result in
    let cells = c.as_slice.result.now in
    let r = image_of fields cells c.self.inside.memory.frames in
    let n = c.output_length-written.result in
    let follows =
    image_follows _ c.make_ready.new.journal.chain.current.newest fields c.args.node c.args.ticks n c.self.invariant (ap (λ (l : LifeView). l.failed) c.self.view_is ∙ c.requires.live.0)
    c.in_ok-make_ready.ensures.newest (c.output_length-written.ensures.answer ∙ c.in_ok-make_ready.ensures.written)
    (subst (λ (l : LifeView). l.progress.newest_tick < c.args.ticks) (sym c.self.view_is) c.requires.later) (c.fields_of-fields.ensures.answer (since_of c.self.inside.progress n) refl refl) in
    let now = c.requires.now ∙ ap (λ (l : LifeView). l.machine.state.ticks) (sym c.self.view_is) in
    let shown : List run.Event = run.Checkpoint c.args.node c.args.ticks ∷ [] in
    subst (λ (l : LifeView). ServesStanding shown l u x) c.self.view_is
    (save_serves _ c.make_ready.new.journal u v c.make_ready.ensures.steady.tells c.in_ok-make_ready.ensures.flushed c.make_ready.ensures.moments c.in_ok-make_ready.ensures.stays
    c.images_of_lives_stand.ensures.law c.args.node c.args.ticks now r follows
    (λ o es h. passes_now o es c.args.node c.args.ticks n _ fields c.find_cells.new.runs cells c.self.invariant now (subst (λ (l : LifeView). IsDueNow l c.args.ticks) (sym c.self.view_is) c.requires.due) c.fields_of-fields.ensures.answer
    (c.output_length-written.ensures.answer ∙ c.in_ok-make_ready.ensures.written) c.as_slice.ensures.answer c.find_cells.ensures.exact c.save.ensures.words h)
    x c.save.ensures.any_moment
    (g.met.D.Disk.tells_all c.args.disk.now))

pub returns-in_err-save-clause-later : goal.returns-in_err-save-clause-later
returns-in_err-save-clause-later g c =
    let u = g.D.Disk.view c.args.disk.now in
    let v = g.D.Disk.view c.make_ready.new.disk in
    let x = g.D.Disk.view c.save.new.disk in
    let fields = c.fields_of-fields.result in
    let cells = c.as_slice.result.now in
    let r = image_of fields cells c.self.inside.memory.frames in
    let n = c.output_length-written.result in
    let follows =
    image_follows _ c.make_ready.new.journal.chain.current.newest fields c.args.node c.args.ticks n c.self.invariant (ap (λ (l : LifeView). l.failed) c.self.view_is ∙ c.requires.live.0)
    c.in_ok-make_ready.ensures.newest (c.output_length-written.ensures.answer ∙ c.in_ok-make_ready.ensures.written)
    (subst (λ (l : LifeView). l.progress.newest_tick < c.args.ticks) (sym c.self.view_is) c.requires.later) (c.fields_of-fields.ensures.answer (since_of c.self.inside.progress n) refl refl) in
    let shown : List run.Event = run.Checkpoint c.args.node c.args.ticks ∷ [] in
    let fits =
    fits_then c.self.inside.journal c.make_ready.new.journal u v c.make_ready.ensures.steady.tells
    (serving_fits shown _ u refl (subst (λ (l : LifeView). FitsServing shown l u) (sym c.self.view_is) c.requires.fits)) c.in_ok-make_ready.ensures.holds in
    images_after u v x (g.met.D.Disk.tells_all c.args.disk.now) c.make_ready.ensures.steady.tells c.make_ready.ensures.later (images_saved c.make_ready.new.journal r v x fits follows c.save.ensures.any_moment)

pub returns-clause-moments : goal.returns-clause-moments
returns-clause-moments g c =
    let u = g.D.Disk.view c.args.disk.now in
    let v = g.D.Disk.view c.make_ready.new.disk in
    let x = g.D.Disk.view c.save.new.disk in
    let fields = c.fields_of-fields.result in
    let cells = c.as_slice.result.now in
    let r = image_of fields cells c.self.inside.memory.frames in
    let n = c.output_length-written.result in
    let follows =
    image_follows _ c.make_ready.new.journal.chain.current.newest fields c.args.node c.args.ticks n c.self.invariant (ap (λ (l : LifeView). l.failed) c.self.view_is ∙ c.requires.live.0)
    c.in_ok-make_ready.ensures.newest (c.output_length-written.ensures.answer ∙ c.in_ok-make_ready.ensures.written)
    (subst (λ (l : LifeView). l.progress.newest_tick < c.args.ticks) (sym c.self.view_is) c.requires.later) (c.fields_of-fields.ensures.answer (since_of c.self.inside.progress n) refl refl) in
    let now = c.requires.now ∙ ap (λ (l : LifeView). l.machine.state.ticks) (sym c.self.view_is) in
    let shown : List run.Event = run.Checkpoint c.args.node c.args.ticks ∷ [] in
    subst (λ (l : LifeView). ServesStanding shown l u x) c.self.view_is
    (save_serves _ c.make_ready.new.journal u v c.make_ready.ensures.steady.tells c.in_ok-make_ready.ensures.flushed c.make_ready.ensures.moments c.in_ok-make_ready.ensures.stays
    c.images_of_lives_stand.ensures.law c.args.node c.args.ticks now r follows
    (λ o es h. passes_now o es c.args.node c.args.ticks n _ fields c.find_cells.new.runs cells c.self.invariant now (subst (λ (l : LifeView). IsDueNow l c.args.ticks) (sym c.self.view_is) c.requires.due) c.fields_of-fields.ensures.answer
    (c.output_length-written.ensures.answer ∙ c.in_ok-make_ready.ensures.written) c.as_slice.ensures.answer c.find_cells.ensures.exact c.save.ensures.words h)
    x c.save.ensures.any_moment
    (g.met.D.Disk.tells_all c.args.disk.now))

pub returns-clause-later : goal.returns-clause-later
returns-clause-later g c =
    let u = g.D.Disk.view c.args.disk.now in
    let v = g.D.Disk.view c.make_ready.new.disk in
    let x = g.D.Disk.view c.save.new.disk in
    let fields = c.fields_of-fields.result in
    let cells = c.as_slice.result.now in
    let r = image_of fields cells c.self.inside.memory.frames in
    let n = c.output_length-written.result in
    let follows =
    image_follows _ c.make_ready.new.journal.chain.current.newest fields c.args.node c.args.ticks n c.self.invariant (ap (λ (l : LifeView). l.failed) c.self.view_is ∙ c.requires.live.0)
    c.in_ok-make_ready.ensures.newest (c.output_length-written.ensures.answer ∙ c.in_ok-make_ready.ensures.written)
    (subst (λ (l : LifeView). l.progress.newest_tick < c.args.ticks) (sym c.self.view_is) c.requires.later) (c.fields_of-fields.ensures.answer (since_of c.self.inside.progress n) refl refl) in
    let shown : List run.Event = run.Checkpoint c.args.node c.args.ticks ∷ [] in
    let fits =
    fits_then c.self.inside.journal c.make_ready.new.journal u v c.make_ready.ensures.steady.tells
    (serving_fits shown _ u refl (subst (λ (l : LifeView). FitsServing shown l u) (sym c.self.view_is) c.requires.fits)) c.in_ok-make_ready.ensures.holds in
    images_after u v x (g.met.D.Disk.tells_all c.args.disk.now) c.make_ready.ensures.steady.tells c.make_ready.ensures.later (images_saved c.make_ready.new.journal r v x fits follows c.save.ensures.any_moment)
