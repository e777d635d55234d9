use Rattle.ckpt_program.specs.Sight.{sight}
use Rattle.disk_model.specs.Plate.{plate}
use Rattle.ckpt_program.specs.Headline.{IsSourceIn, IsSourceOf}
use Rattle.ckpt_program.specs.LifeRow as row
use Rattle.ckpt_program.specs.declared.lives.Job.{Job}
use Rattle.ckpt_program.proofs.Disks.{stays_still}
use Rattle.ckpt_program.proofs.Joining.{went}
use Rattle.ckpt_program.proofs.Living.{keeps_still, standing_stays, images_stay}
use Rattle.ckpt_program.proofs.Running.{short_input, source_read, fewer_stand, fewer_told}
use Rattle.ckpt_program.proofs.lives.live_job.Goals as goal

pub live_with-requires-clause-short : goal.live_with-requires-clause-short
live_with-requires-clause-short g c = short_input c.args.source_name.now c.args.input_name.now (sight (g.H.Shelf.view c.args.shelf.now)) (sight (g.H.Shelf.view c.read_job.new.shelf)) c.in_ok-job.job c.in_ok-job.ensures.answer

pub returns-clause-answer : goal.returns-clause-answer
returns-clause-answer g c =
    let old = sight (g.H.Shelf.view c.args.shelf.now) in
    let new = sight (g.H.Shelf.view c.read_job.new.shelf) in
    let next = λ (j : Job). row.OfJob c.args.asked j (plate (g.D.Disk.view c.args.disk.now)) (plate (g.D.Disk.view c.live_with.new.disk)) in
    went (row.ReadsJob c.args.source_name.now c.args.input_name.now old new) next c.in_ok-job.job c.live_with.result c.in_ok-job.ensures.answer c.live_with.ensures.answer

pub returns-clause-moments : goal.returns-clause-moments
returns-clause-moments g c =
    let old = sight (g.H.Shelf.view c.args.shelf.now) in
    let new = sight (g.H.Shelf.view c.read_job.new.shelf) in
    let source = c.args.source_name.now in
    let input = c.args.input_name.now in
    fewer_stand (IsSourceOf c.in_ok-job.job) (IsSourceIn source input old) (g.D.Disk.view c.args.disk.now) (g.D.Disk.view c.live_with.new.disk) (λ s is. source_read source input old new c.in_ok-job.job s c.in_ok-job.ensures.answer is) c.live_with.ensures.moments

pub returns-clause-told : goal.returns-clause-told
returns-clause-told g c =
    let old = sight (g.H.Shelf.view c.args.shelf.now) in
    let new = sight (g.H.Shelf.view c.read_job.new.shelf) in
    let source = c.args.source_name.now in
    let input = c.args.input_name.now in
    fewer_told (IsSourceOf c.in_ok-job.job) (IsSourceIn source input old) c.args.asked (g.D.Disk.view c.args.disk.now) (g.D.Disk.view c.live_with.new.disk) c.live_with.result (λ s is. source_read source input old new c.in_ok-job.job s c.in_ok-job.ensures.answer is) c.live_with.ensures.told

pub returns-in_err-job-clause-keeps : goal.returns-in_err-job-clause-keeps
returns-in_err-job-clause-keeps g c = keeps_still c.from_residual.result (g.D.Disk.view c.args.disk.now)

pub returns-in_err-job-clause-moments : goal.returns-in_err-job-clause-moments
returns-in_err-job-clause-moments g c =
    let v = g.D.Disk.view c.args.disk.now in
    standing_stays (IsSourceIn c.args.source_name.now c.args.input_name.now (sight (g.H.Shelf.view c.args.shelf.now))) v v (g.met.D.Disk.tells_all c.args.disk.now) (stays_still v (g.met.D.Disk.lawful c.args.disk.now))

pub returns-in_err-job-clause-later : goal.returns-in_err-job-clause-later
returns-in_err-job-clause-later g c = let v = g.D.Disk.view c.args.disk.now in images_stay v v (g.met.D.Disk.tells_all c.args.disk.now) (stays_still v (g.met.D.Disk.lawful c.args.disk.now))
