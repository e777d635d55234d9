use Rattle.std.proofs.Common.{subst, List, [], ℕ}
use Rattle.ckpt_program.specs.Drill as row
use Rattle.ckpt_program.specs.LifeRow.{ReadsJob}
use Rattle.ckpt_program.specs.Sight.{sight}
use Rattle.ckpt_program.specs.Stage.{Comes}
use Rattle.ckpt_program.specs.declared.lives.Job.{Job}
use Rattle.ckpt_program.proofs.Joining.{went}
use Rattle.ckpt_program.proofs.drill.drill_source.Goals as goal

pub returns-clause-answer : goal.returns-clause-answer
returns-clause-answer g c =
    let old = sight (g.H.Shelf.view c.args.shelf.now) in
    let new = sight (g.H.Shelf.view c.read_job.new.shelf) in
    let job = c.in_ok-job.job in
    let asked = c.args.asked in
    let stops = c.args.stops.now in
    let came = λ (t i : List ℕ). Comes (row.OfProgram [] asked stops job.program t i) c.drill_program.result in
    let next = λ (j : Job). row.OfProgram [] asked stops j.program j.text.list j.input.list in
    went (ReadsJob c.args.source_name.now c.args.input_name.now old new) next job c.drill_program.result c.in_ok-job.ensures.answer
    (subst (λ (t : List ℕ). came t job.input.list) c.as_slice.ensures.answer (subst (came c.as_slice.result.now) c.as_slice-2.ensures.answer c.drill_program.ensures.answer))
