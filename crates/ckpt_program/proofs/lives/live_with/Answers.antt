use Rattle.disk_model.specs.Plate.{plate}
use Rattle.ckpt_runner.specs.Standing.{IsGivenSource}
use Rattle.ckpt_program.specs.LifeStages.{given_with}
use Rattle.ckpt_program.specs.Headline.{IsSourceOf}
use Rattle.ckpt_program.proofs.Disks.{stays_still}
use Rattle.ckpt_program.proofs.Living.{keeps_still, standing_stays, images_stay}
use Rattle.ckpt_program.proofs.Running.{in_store_with, source_given, fewer_stand, fewer_told}
use Rattle.ckpt_program.proofs.lives.live_with.Goals as goal

pub returns-in_err-compiled-clause-keeps : goal.returns-in_err-compiled-clause-keeps
returns-in_err-compiled-clause-keeps g c = keeps_still c.from_residual.result (g.D.Disk.view c.args.disk.now)

pub returns-in_err-compiled-clause-moments : goal.returns-in_err-compiled-clause-moments
returns-in_err-compiled-clause-moments g c =
    let v = g.D.Disk.view c.args.disk.now in
    standing_stays (IsSourceOf c.args.job.now) v v (g.met.D.Disk.tells_all c.args.disk.now) (stays_still v (g.met.D.Disk.lawful c.args.disk.now))

pub returns-in_err-compiled-clause-later : goal.returns-in_err-compiled-clause-later
returns-in_err-compiled-clause-later g c = let v = g.D.Disk.view c.args.disk.now in images_stay v v (g.met.D.Disk.tells_all c.args.disk.now) (stays_still v (g.met.D.Disk.lawful c.args.disk.now))

pub returns-clause-answer : goal.returns-clause-answer
returns-clause-answer g c = in_store_with c.args.asked c.args.job.now c.in_ok-compiled.compiled (plate (g.D.Disk.view c.args.disk.now)) (plate (g.D.Disk.view c.live_compiled.new.disk)) c.live_compiled.result c.marks_of-marks.result c.as_slice-input.result.now c.as_slice.result.now c.marks_of-marks.ensures.answer c.as_slice.ensures.answer c.as_slice-input.ensures.answer c.in_ok-compiled.ensures.answer c.live_compiled.ensures.answer

pub returns-clause-moments : goal.returns-clause-moments
returns-clause-moments g c =
    let job = c.args.job.now in
    let compiled = c.in_ok-compiled.compiled in
    let marks = c.marks_of-marks.result in
    let bytes = c.as_slice-input.result.now in
    let text = c.as_slice.result.now in
    fewer_stand (IsGivenSource (given_with compiled marks bytes c.args.asked)) (IsSourceOf job) (g.D.Disk.view c.args.disk.now) (g.D.Disk.view c.live_compiled.new.disk)
    (λ s is. source_given job c.args.asked compiled marks bytes text s c.marks_of-marks.ensures.answer c.as_slice.ensures.answer c.as_slice-input.ensures.answer c.in_ok-compiled.ensures.answer is) c.live_compiled.ensures.moments

pub returns-clause-told : goal.returns-clause-told
returns-clause-told g c =
    let job = c.args.job.now in
    let compiled = c.in_ok-compiled.compiled in
    let marks = c.marks_of-marks.result in
    let bytes = c.as_slice-input.result.now in
    let text = c.as_slice.result.now in
    fewer_told (IsGivenSource (given_with compiled marks bytes c.args.asked)) (IsSourceOf job) c.args.asked (g.D.Disk.view c.args.disk.now) (g.D.Disk.view c.live_compiled.new.disk) c.live_compiled.result
    (λ s is. source_given job c.args.asked compiled marks bytes text s c.marks_of-marks.ensures.answer c.as_slice.ensures.answer c.as_slice-input.ensures.answer c.in_ok-compiled.ensures.answer is) c.live_compiled.ensures.told
