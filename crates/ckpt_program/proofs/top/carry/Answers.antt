use Rattle.std.proofs.Common.{subst, ℕ, List}
use Rattle.disk_model.specs.Plate.{plate}
use Rattle.ckpt_program.specs.Carries.{word_at}
use Rattle.command_words.specs.declared.stops.Stop.{Stop as LifeStop}
use Rattle.ckpt_program.specs.Drill as drill
use Rattle.ckpt_program.specs.LifeRow as life
use Rattle.ckpt_program.specs.LifeStages.{to_begin, to_go_on}
use Rattle.ckpt_program.specs.Rows as row
use Rattle.ckpt_program.specs.Sight.{sight}
use Rattle.ckpt_program.specs.Stage.{Comes}
use Rattle.ckpt_program.proofs.Disks.{stays_still, calm_still, calm_disk_still}
use Rattle.ckpt_program.proofs.Living.{keeps_still, keeps_stays, images_stay}
use Rattle.ckpt_program.proofs.Ordering.{told_joined, told_cleared}
use Rattle.ckpt_program.proofs.Running.{named_stand, told_run, told_restart}
use Rattle.ckpt_program.proofs.top.carry.Goals as goal

pub returns-in-Check-clause-answer : goal.returns-in-Check-clause-answer
returns-in-Check-clause-answer g c =
    let view = g.H.Shelf.view in
    rw c.in-Check.is (subst (λ (n : List ℕ). Comes (row.Check n (sight (view c.args.shelf.now)) (sight (view c.check.new.shelf))) c.check.result) c.word.ensures.answer c.check.ensures.answer)

pub returns-in-Compile-clause-answer : goal.returns-in-Compile-clause-answer
returns-in-Compile-clause-answer g c =
    let view = g.H.Shelf.view in
    rw c.in-Compile.is (subst (λ (n : List ℕ). Comes (row.Compile n (sight (view c.args.shelf.now)) (sight (view c.compile.new.shelf))) c.compile.result) c.word-in-Compile.ensures.answer c.compile.ensures.answer)

pub returns-in-Report-clause-answer : goal.returns-in-Report-clause-answer
returns-in-Report-clause-answer g c =
    let view = g.H.Shelf.view in
    rw c.in-Report.is (subst (λ (n : List ℕ). Comes (row.Report n (sight (view c.args.shelf.now)) (sight (view c.report.new.shelf))) c.report.result) c.word-in-Report.ensures.answer c.report.ensures.answer)

pub returns-in-Plain-clause-answer : goal.returns-in-Plain-clause-answer
returns-in-Plain-clause-answer g c =
    let view = g.H.Shelf.view in
    let named = λ (s i : List ℕ). Comes (row.Plain s i c.in-Plain.until (sight (view c.args.shelf.now)) (sight (view c.plain.new.shelf))) c.plain.result in
    rw c.in-Plain.is (subst (λ (s : List ℕ). named s (word_at c.args.words.now c.in-Plain.input)) c.word-in-Plain.ensures.answer (subst (named c.word-in-Plain.result.now) c.word-in-Plain-2.ensures.answer c.plain.ensures.answer))

pub returns-in-Images-clause-answer : goal.returns-in-Images-clause-answer
returns-in-Images-clause-answer g c = rw c.in-Images.is c.images.ensures.answer

pub returns-in-Images-clause-quiet : goal.returns-in-Images-clause-quiet
returns-in-Images-clause-quiet g c = rw c.in-Images.is (λ quiet. absurd quiet)

pub returns-in-Images-clause-calm : goal.returns-in-Images-clause-calm
returns-in-Images-clause-calm g c = calm_still c.images.result (sight (g.H.Shelf.view c.args.shelf.now))

pub returns-in-Images-clause-keeps : goal.returns-in-Images-clause-keeps
returns-in-Images-clause-keeps g c = keeps_stays c.images.result (g.D.Disk.view c.args.disk.now) (g.D.Disk.view c.images.new.disk) c.images.ensures.stays

pub returns-in-Check-clause-stays : goal.returns-in-Check-clause-stays
returns-in-Check-clause-stays g c = λ kept. stays_still (g.D.Disk.view c.args.disk.now) (g.met.D.Disk.lawful c.args.disk.now)

pub returns-in-Check-clause-count : goal.returns-in-Check-clause-count
returns-in-Check-clause-count g c = calm_disk_still c.check.result (g.D.Disk.view c.args.disk.now).faults

pub returns-in-Check-clause-keeps : goal.returns-in-Check-clause-keeps
returns-in-Check-clause-keeps g c = keeps_still c.check.result (g.D.Disk.view c.args.disk.now)

pub returns-in-Compile-clause-stays : goal.returns-in-Compile-clause-stays
returns-in-Compile-clause-stays g c = λ kept. stays_still (g.D.Disk.view c.args.disk.now) (g.met.D.Disk.lawful c.args.disk.now)

pub returns-in-Compile-clause-count : goal.returns-in-Compile-clause-count
returns-in-Compile-clause-count g c = calm_disk_still c.compile.result (g.D.Disk.view c.args.disk.now).faults

pub returns-in-Compile-clause-keeps : goal.returns-in-Compile-clause-keeps
returns-in-Compile-clause-keeps g c = keeps_still c.compile.result (g.D.Disk.view c.args.disk.now)

pub returns-in-Report-clause-stays : goal.returns-in-Report-clause-stays
returns-in-Report-clause-stays g c = λ kept. stays_still (g.D.Disk.view c.args.disk.now) (g.met.D.Disk.lawful c.args.disk.now)

pub returns-in-Report-clause-count : goal.returns-in-Report-clause-count
returns-in-Report-clause-count g c = calm_disk_still c.report.result (g.D.Disk.view c.args.disk.now).faults

pub returns-in-Report-clause-keeps : goal.returns-in-Report-clause-keeps
returns-in-Report-clause-keeps g c = keeps_still c.report.result (g.D.Disk.view c.args.disk.now)

pub returns-in-Plain-clause-stays : goal.returns-in-Plain-clause-stays
returns-in-Plain-clause-stays g c = λ kept. stays_still (g.D.Disk.view c.args.disk.now) (g.met.D.Disk.lawful c.args.disk.now)

pub returns-in-Plain-clause-count : goal.returns-in-Plain-clause-count
returns-in-Plain-clause-count g c = calm_disk_still c.plain.result (g.D.Disk.view c.args.disk.now).faults

pub returns-in-Plain-clause-keeps : goal.returns-in-Plain-clause-keeps
returns-in-Plain-clause-keeps g c = keeps_still c.plain.result (g.D.Disk.view c.args.disk.now)

pub returns-in-Check-clause-moments : goal.returns-in-Check-clause-moments
returns-in-Check-clause-moments g c = rw c.in-Check.is (λ told s none. absurd none)

pub returns-in-Check-clause-later : goal.returns-in-Check-clause-later
returns-in-Check-clause-later g c = λ spares. let v = g.D.Disk.view c.args.disk.now in images_stay v v (g.met.D.Disk.tells_all c.args.disk.now) (stays_still v (g.met.D.Disk.lawful c.args.disk.now))

pub returns-in-Check-clause-told : goal.returns-in-Check-clause-told
returns-in-Check-clause-told g c = rw c.in-Check.is tt

pub returns-in-Check-clause-lasting : goal.returns-in-Check-clause-lasting
returns-in-Check-clause-lasting g c = rw c.in-Check.is (λ life. absurd life)

pub returns-in-Compile-clause-moments : goal.returns-in-Compile-clause-moments
returns-in-Compile-clause-moments g c = rw c.in-Compile.is (λ told s none. absurd none)

pub returns-in-Compile-clause-later : goal.returns-in-Compile-clause-later
returns-in-Compile-clause-later g c = λ spares. let v = g.D.Disk.view c.args.disk.now in images_stay v v (g.met.D.Disk.tells_all c.args.disk.now) (stays_still v (g.met.D.Disk.lawful c.args.disk.now))

pub returns-in-Compile-clause-told : goal.returns-in-Compile-clause-told
returns-in-Compile-clause-told g c = rw c.in-Compile.is tt

pub returns-in-Compile-clause-lasting : goal.returns-in-Compile-clause-lasting
returns-in-Compile-clause-lasting g c = rw c.in-Compile.is (λ life. absurd life)

pub returns-in-Report-clause-moments : goal.returns-in-Report-clause-moments
returns-in-Report-clause-moments g c = rw c.in-Report.is (λ told s none. absurd none)

pub returns-in-Report-clause-later : goal.returns-in-Report-clause-later
returns-in-Report-clause-later g c = λ spares. let v = g.D.Disk.view c.args.disk.now in images_stay v v (g.met.D.Disk.tells_all c.args.disk.now) (stays_still v (g.met.D.Disk.lawful c.args.disk.now))

pub returns-in-Report-clause-told : goal.returns-in-Report-clause-told
returns-in-Report-clause-told g c = rw c.in-Report.is tt

pub returns-in-Report-clause-lasting : goal.returns-in-Report-clause-lasting
returns-in-Report-clause-lasting g c = rw c.in-Report.is (λ life. absurd life)

pub returns-in-Plain-clause-moments : goal.returns-in-Plain-clause-moments
returns-in-Plain-clause-moments g c = rw c.in-Plain.is (λ told s none. absurd none)

pub returns-in-Plain-clause-later : goal.returns-in-Plain-clause-later
returns-in-Plain-clause-later g c = λ spares. let v = g.D.Disk.view c.args.disk.now in images_stay v v (g.met.D.Disk.tells_all c.args.disk.now) (stays_still v (g.met.D.Disk.lawful c.args.disk.now))

pub returns-in-Plain-clause-told : goal.returns-in-Plain-clause-told
returns-in-Plain-clause-told g c = rw c.in-Plain.is tt

pub returns-in-Plain-clause-lasting : goal.returns-in-Plain-clause-lasting
returns-in-Plain-clause-lasting g c = rw c.in-Plain.is (λ life. absurd life)

pub returns-in-Images-clause-moments : goal.returns-in-Images-clause-moments
returns-in-Images-clause-moments g c = rw c.in-Images.is (λ told s none. absurd none)

pub returns-in-Images-clause-later : goal.returns-in-Images-clause-later
returns-in-Images-clause-later g c = λ spares. images_stay (g.D.Disk.view c.args.disk.now) (g.D.Disk.view c.images.new.disk) (g.met.D.Disk.tells_all c.args.disk.now) c.images.ensures.stays

pub returns-in-Images-clause-told : goal.returns-in-Images-clause-told
returns-in-Images-clause-told g c = rw c.in-Images.is tt

pub returns-in-Images-clause-lasting : goal.returns-in-Images-clause-lasting
returns-in-Images-clause-lasting g c = rw c.in-Images.is (λ life. absurd life)

pub returns-in-Run-clause-answer : goal.returns-in-Run-clause-answer
returns-in-Run-clause-answer g c =
    let view = g.H.Shelf.view in
    let disk = g.D.Disk.view in
    let named = λ (s i : List ℕ). Comes (life.Lives s i (to_begin c.in-Run.settings) (sight (view c.args.shelf.now)) (sight (view c.live_job.new.shelf)) (plate (disk c.args.disk.now)) (plate (disk c.live_job.new.disk))) c.live_job.result in
    rw c.in-Run.is (subst (λ (s : List ℕ). named s (word_at c.args.words.now c.in-Run.input)) c.word-in-Run.ensures.answer (subst (named c.word-in-Run.result.now) c.word-in-Run-2.ensures.answer c.live_job.ensures.answer))

pub returns-in-Run-clause-quiet : goal.returns-in-Run-clause-quiet
returns-in-Run-clause-quiet g c = rw c.in-Run.is (λ quiet. absurd quiet)

pub returns-in-Run-clause-stays : goal.returns-in-Run-clause-stays
returns-in-Run-clause-stays g c = rw c.in-Run.is (λ kept. absurd kept)

pub returns-in-Run-clause-moments : goal.returns-in-Run-clause-moments
returns-in-Run-clause-moments g c =
    rw c.in-Run.is (named_stand (sight (g.H.Shelf.view c.args.shelf.now)) (g.D.Disk.view c.args.disk.now) (g.D.Disk.view c.live_job.new.disk) c.word-in-Run.result.now c.word-in-Run-2.result.now (word_at c.args.words.now c.in-Run.source) (word_at c.args.words.now c.in-Run.input) c.word-in-Run.ensures.answer c.word-in-Run-2.ensures.answer c.live_job.ensures.moments)

pub returns-in-Run-clause-told : goal.returns-in-Run-clause-told
returns-in-Run-clause-told g c =
    rw c.in-Run.is (told_run c.args.words.now (sight (g.H.Shelf.view c.args.shelf.now)) (g.D.Disk.view c.args.disk.now) (g.D.Disk.view c.live_job.new.disk) c.live_job.result c.in-Run.source c.in-Run.input c.in-Run.dir c.in-Run.settings c.word-in-Run.result.now c.word-in-Run-2.result.now c.word-in-Run.ensures.answer c.word-in-Run-2.ensures.answer c.live_job.ensures.told)

pub returns-in-Restart-clause-answer : goal.returns-in-Restart-clause-answer
returns-in-Restart-clause-answer g c =
    let view = g.H.Shelf.view in
    let disk = g.D.Disk.view in
    let named = λ (s i : List ℕ). Comes (life.Lives s i (to_go_on c.in-Restart.settings c.in-Restart.fill) (sight (view c.args.shelf.now)) (sight (view c.live_job-in-Restart.new.shelf)) (plate (disk c.args.disk.now)) (plate (disk c.live_job-in-Restart.new.disk))) c.live_job-in-Restart.result in
    rw c.in-Restart.is (subst (λ (s : List ℕ). named s (word_at c.args.words.now c.in-Restart.input)) c.word-in-Restart.ensures.answer (subst (named c.word-in-Restart.result.now) c.word-in-Restart-2.ensures.answer c.live_job-in-Restart.ensures.answer))

pub returns-in-Restart-clause-quiet : goal.returns-in-Restart-clause-quiet
returns-in-Restart-clause-quiet g c = rw c.in-Restart.is (λ quiet. absurd quiet)

pub returns-in-Restart-clause-stays : goal.returns-in-Restart-clause-stays
returns-in-Restart-clause-stays g c = rw c.in-Restart.is (λ kept. absurd kept)

pub returns-in-Restart-clause-moments : goal.returns-in-Restart-clause-moments
returns-in-Restart-clause-moments g c =
    rw c.in-Restart.is (named_stand (sight (g.H.Shelf.view c.args.shelf.now)) (g.D.Disk.view c.args.disk.now) (g.D.Disk.view c.live_job-in-Restart.new.disk) c.word-in-Restart.result.now c.word-in-Restart-2.result.now (word_at c.args.words.now c.in-Restart.source) (word_at c.args.words.now c.in-Restart.input) c.word-in-Restart.ensures.answer c.word-in-Restart-2.ensures.answer c.live_job-in-Restart.ensures.moments)

pub returns-in-Restart-clause-told : goal.returns-in-Restart-clause-told
returns-in-Restart-clause-told g c =
    rw c.in-Restart.is (told_restart c.args.words.now (sight (g.H.Shelf.view c.args.shelf.now)) (g.D.Disk.view c.args.disk.now) (g.D.Disk.view c.live_job-in-Restart.new.disk) c.live_job-in-Restart.result c.in-Restart.source c.in-Restart.input c.in-Restart.dir c.in-Restart.settings c.in-Restart.fill c.word-in-Restart.result.now c.word-in-Restart-2.result.now c.word-in-Restart.ensures.answer c.word-in-Restart-2.ensures.answer c.live_job-in-Restart.ensures.told)

pub returns-in-Run-clause-later : goal.returns-in-Run-clause-later
returns-in-Run-clause-later g c = λ spares. c.live_job.ensures.later

pub returns-in-Run-clause-lasting : goal.returns-in-Run-clause-lasting
returns-in-Run-clause-lasting g c = λ life. c.live_job.ensures.lasting

pub returns-in-Restart-clause-later : goal.returns-in-Restart-clause-later
returns-in-Restart-clause-later g c = λ spares. c.live_job-in-Restart.ensures.later

pub returns-in-Restart-clause-lasting : goal.returns-in-Restart-clause-lasting
returns-in-Restart-clause-lasting g c = λ life. c.live_job-in-Restart.ensures.lasting

pub returns-in-Coalesce-clause-answer : goal.returns-in-Coalesce-clause-answer
returns-in-Coalesce-clause-answer g c = rw c.in-Coalesce.is c.coalesce.ensures.answer

pub returns-in-Coalesce-clause-calm : goal.returns-in-Coalesce-clause-calm
returns-in-Coalesce-clause-calm g c = calm_still c.coalesce.result (sight (g.H.Shelf.view c.args.shelf.now))

pub returns-in-Coalesce-clause-quiet : goal.returns-in-Coalesce-clause-quiet
returns-in-Coalesce-clause-quiet g c = rw c.in-Coalesce.is (λ quiet. absurd quiet)

pub returns-in-Coalesce-clause-stays : goal.returns-in-Coalesce-clause-stays
returns-in-Coalesce-clause-stays g c = rw c.in-Coalesce.is (λ kept. absurd kept)

pub returns-in-Coalesce-clause-moments : goal.returns-in-Coalesce-clause-moments
returns-in-Coalesce-clause-moments g c = rw c.in-Coalesce.is (λ told s is stand. c.coalesce.ensures.moments told s is stand)

pub returns-in-Coalesce-clause-later : goal.returns-in-Coalesce-clause-later
returns-in-Coalesce-clause-later g c = λ spares. c.coalesce.ensures.later

pub returns-in-Coalesce-clause-told : goal.returns-in-Coalesce-clause-told
returns-in-Coalesce-clause-told g c = rw c.in-Coalesce.is (told_joined c.args.words.now (sight (g.H.Shelf.view c.args.shelf.now)) (g.D.Disk.view c.args.disk.now) (g.D.Disk.view c.coalesce.new.disk) c.coalesce.result c.in-Coalesce.dir c.coalesce.ensures.joins)

pub returns-in-Coalesce-clause-lasting : goal.returns-in-Coalesce-clause-lasting
returns-in-Coalesce-clause-lasting g c = rw c.in-Coalesce.is (λ life. absurd life)

pub returns-in-Clear-clause-answer : goal.returns-in-Clear-clause-answer
returns-in-Clear-clause-answer g c = rw c.in-Clear.is c.clear.ensures.answer

pub returns-in-Clear-clause-calm : goal.returns-in-Clear-clause-calm
returns-in-Clear-clause-calm g c = calm_still c.clear.result (sight (g.H.Shelf.view c.args.shelf.now))

pub returns-in-Clear-clause-quiet : goal.returns-in-Clear-clause-quiet
returns-in-Clear-clause-quiet g c = rw c.in-Clear.is (λ quiet. absurd quiet)

pub returns-in-Clear-clause-stays : goal.returns-in-Clear-clause-stays
returns-in-Clear-clause-stays g c = rw c.in-Clear.is (λ kept. absurd kept)

pub returns-in-Clear-clause-moments : goal.returns-in-Clear-clause-moments
returns-in-Clear-clause-moments g c = rw c.in-Clear.is (λ told s is stand. c.clear.ensures.moments told s is stand)

pub returns-in-Clear-clause-later : goal.returns-in-Clear-clause-later
returns-in-Clear-clause-later g c = rw c.in-Clear.is (λ spares. absurd spares)

pub returns-in-Clear-clause-told : goal.returns-in-Clear-clause-told
returns-in-Clear-clause-told g c = rw c.in-Clear.is (told_cleared c.args.words.now (sight (g.H.Shelf.view c.args.shelf.now)) (g.D.Disk.view c.args.disk.now) (g.D.Disk.view c.clear.new.disk) c.clear.result c.in-Clear.dir c.clear.ensures.clears)

pub returns-in-Clear-clause-lasting : goal.returns-in-Clear-clause-lasting
returns-in-Clear-clause-lasting g c = rw c.in-Clear.is (λ life. absurd life)

pub returns-in-Why-clause-answer : goal.returns-in-Why-clause-answer
returns-in-Why-clause-answer g c =
    let view = g.H.Shelf.view in
    rw c.in-Why.is (subst (λ (n : List ℕ). Comes (row.Why n c.in-Why.exclude c.in-Why.cell (sight (view c.args.shelf.now)) (sight (view c.why.new.shelf))) c.why.result) c.word-in-Why.ensures.answer c.why.ensures.answer)

pub returns-in-Why-clause-stays : goal.returns-in-Why-clause-stays
returns-in-Why-clause-stays g c = λ kept. stays_still (g.D.Disk.view c.args.disk.now) (g.met.D.Disk.lawful c.args.disk.now)

pub returns-in-Why-clause-count : goal.returns-in-Why-clause-count
returns-in-Why-clause-count g c = calm_disk_still c.why.result (g.D.Disk.view c.args.disk.now).faults

pub returns-in-Why-clause-keeps : goal.returns-in-Why-clause-keeps
returns-in-Why-clause-keeps g c = keeps_still c.why.result (g.D.Disk.view c.args.disk.now)

pub returns-in-Why-clause-moments : goal.returns-in-Why-clause-moments
returns-in-Why-clause-moments g c = rw c.in-Why.is (λ told s none. absurd none)

pub returns-in-Why-clause-later : goal.returns-in-Why-clause-later
returns-in-Why-clause-later g c = λ spares. let v = g.D.Disk.view c.args.disk.now in images_stay v v (g.met.D.Disk.tells_all c.args.disk.now) (stays_still v (g.met.D.Disk.lawful c.args.disk.now))

pub returns-in-Why-clause-told : goal.returns-in-Why-clause-told
returns-in-Why-clause-told g c = rw c.in-Why.is tt

pub returns-in-Why-clause-lasting : goal.returns-in-Why-clause-lasting
returns-in-Why-clause-lasting g c = rw c.in-Why.is (λ life. absurd life)

pub returns-in-Drill-clause-answer : goal.returns-in-Drill-clause-answer
returns-in-Drill-clause-answer g c =
    let view = g.H.Shelf.view in
    let named = λ (s i : List ℕ) (stops : List LifeStop). Comes (drill.Drill s i (drill.to_drill c.in-Drill.settings c.in-Drill.fill) stops (sight (view c.args.shelf.now)) (sight (view c.drill_source.new.shelf))) c.drill_source.result in
    let first = c.word-in-Drill.result.now in
    let second = c.word-in-Drill-2.result.now in
    rw c.in-Drill.is (subst (λ (s : List ℕ). named s (word_at c.args.words.now c.in-Drill.input) c.in-Drill.stops) c.word-in-Drill.ensures.answer
    (subst (λ (i : List ℕ). named first i c.in-Drill.stops) c.word-in-Drill-2.ensures.answer (subst (named first second) c.as_slice.ensures.answer c.drill_source.ensures.answer)))

pub returns-in-Drill-clause-stays : goal.returns-in-Drill-clause-stays
returns-in-Drill-clause-stays g c = λ kept. stays_still (g.D.Disk.view c.args.disk.now) (g.met.D.Disk.lawful c.args.disk.now)

pub returns-in-Drill-clause-count : goal.returns-in-Drill-clause-count
returns-in-Drill-clause-count g c = calm_disk_still c.drill_source.result (g.D.Disk.view c.args.disk.now).faults

pub returns-in-Drill-clause-keeps : goal.returns-in-Drill-clause-keeps
returns-in-Drill-clause-keeps g c = keeps_still c.drill_source.result (g.D.Disk.view c.args.disk.now)

pub returns-in-Drill-clause-moments : goal.returns-in-Drill-clause-moments
returns-in-Drill-clause-moments g c = rw c.in-Drill.is (λ told s none. absurd none)

pub returns-in-Drill-clause-later : goal.returns-in-Drill-clause-later
returns-in-Drill-clause-later g c = λ spares. let v = g.D.Disk.view c.args.disk.now in images_stay v v (g.met.D.Disk.tells_all c.args.disk.now) (stays_still v (g.met.D.Disk.lawful c.args.disk.now))

pub returns-in-Drill-clause-told : goal.returns-in-Drill-clause-told
returns-in-Drill-clause-told g c = rw c.in-Drill.is tt

pub returns-in-Drill-clause-lasting : goal.returns-in-Drill-clause-lasting
returns-in-Drill-clause-lasting g c = rw c.in-Drill.is (λ life. absurd life)

pub returns-in-Generate-clause-answer : goal.returns-in-Generate-clause-answer
returns-in-Generate-clause-answer g c = rw c.in-Generate.is c.generate.ensures.answer

pub returns-in-Generate-clause-stays : goal.returns-in-Generate-clause-stays
returns-in-Generate-clause-stays g c = λ kept. stays_still (g.D.Disk.view c.args.disk.now) (g.met.D.Disk.lawful c.args.disk.now)

pub returns-in-Generate-clause-count : goal.returns-in-Generate-clause-count
returns-in-Generate-clause-count g c = calm_disk_still c.generate.result (g.D.Disk.view c.args.disk.now).faults

pub returns-in-Generate-clause-keeps : goal.returns-in-Generate-clause-keeps
returns-in-Generate-clause-keeps g c = keeps_still c.generate.result (g.D.Disk.view c.args.disk.now)

pub returns-in-Generate-clause-moments : goal.returns-in-Generate-clause-moments
returns-in-Generate-clause-moments g c = rw c.in-Generate.is (λ told s none. absurd none)

pub returns-in-Generate-clause-later : goal.returns-in-Generate-clause-later
returns-in-Generate-clause-later g c = λ spares. let v = g.D.Disk.view c.args.disk.now in images_stay v v (g.met.D.Disk.tells_all c.args.disk.now) (stays_still v (g.met.D.Disk.lawful c.args.disk.now))

pub returns-in-Generate-clause-told : goal.returns-in-Generate-clause-told
returns-in-Generate-clause-told g c = rw c.in-Generate.is tt

pub returns-in-Generate-clause-lasting : goal.returns-in-Generate-clause-lasting
returns-in-Generate-clause-lasting g c = rw c.in-Generate.is (λ life. absurd life)

pub returns-in-Generate-clause-calm : goal.returns-in-Generate-clause-calm
returns-in-Generate-clause-calm g c = calm_still c.generate.result (sight (g.H.Shelf.view c.args.shelf.now))
