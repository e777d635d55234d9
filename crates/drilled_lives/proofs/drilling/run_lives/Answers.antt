use Rattle.std.proofs.Common.{subst, sym, ◌+◌, List, drop, arith}
use Rattle.disk_model.specs.MemoryDisk.{view_of}
use Rattle.ckpt_runner.specs.Arguments.{given_by}
use Rattle.drilled_lives.specs.declared.course.Course.{Course}
use Rattle.std.proofs.lemmas.List.{drop_all}
use Rattle.ckpt_runner.specs.declared.started.Started.TheVariants.{Begun}
use Rattle.drilled_lives.specs.Courses.{AreCourses, Fresh}
use Rattle.command_words.specs.declared.stops.Stop.{Stop}
use Rattle.command_words.specs.declared.stops.Stop.TheVariants.{AtStep}
use Rattle.drilled_lives.proofs.DrillLaws.{IsSoFar, drop_next, last_output, none_so_far, one_more, other_mode, the_last}
use Rattle.drilled_lives.proofs.drilling.run_lives.Goals as goal

pub lives-init : goal.lives-init
lives-init c = λ s given spaced between.
    subst (λ (done : List Course). IsSoFar s c.args.how.every c.args.how.until c.args.stops.now done c.args.stops.now (view_of c.args.disk.now)) (sym c.new-courses.ensures.items)
    (none_so_far s c.args.how.every c.args.how.until c.args.stops.now (view_of c.args.disk.now) between)

pub lives-preserved : goal.lives-preserved
lives-preserved c = λ s given spaced between.
    let args = given_by c.args.compiled.now c.args.marks.now c.args.input.now (record c.args.how { mode = c.lives.mode }) in
    let stops = c.args.stops.now in
    let i = c.lives.stop-index in
    subst (λ (done : List Course). IsSoFar s c.args.how.every c.args.how.until stops done (drop (i + 1) stops) (view_of c.live_stopped.new.disk)) (sym c.in_ok-add.ensures.added)
    (one_more s args stops (drop (i + 1) stops) _ c.lives.courses.items c.in_ok-course.course (view_of c.lives.disk) (view_of c.live_stopped.new.disk) (other_mode (given_by c.args.compiled.now c.args.marks.now c.args.input.now c.args.how) c.lives.mode s given) spaced
    (subst (λ (rest : List Stop). IsSoFar s c.args.how.every c.args.how.until stops c.lives.courses.items rest (view_of c.lives.disk)) (drop_next stops i (AtStep 0) (omega arith)) (c.lives.invariant s given spaced between)) c.in_ok-course.ensures.follows)

pub returns-clause-lives : goal.returns-clause-lives
returns-clause-lives c = λ s given spaced between.
    let args = given_by c.args.compiled.now c.args.marks.now c.args.input.now (record c.args.how { mode = c.lives.mode }) in
    let stops = c.args.stops.now in
    subst (λ (all : List Course). AreCourses s c.args.how.every c.args.how.until Begun Fresh stops all) (sym c.in_ok-add-2.ensures.added)
    (the_last s args stops c.lives.courses.items c.in_ok-course-2.course (view_of c.lives.disk) (view_of c.live_out.new.disk) (other_mode (given_by c.args.compiled.now c.args.marks.now c.args.input.now c.args.how) c.lives.mode s given) spaced
    (subst (λ (rest : List Stop). IsSoFar s c.args.how.every c.args.how.until stops c.lives.courses.items rest (view_of c.lives.disk)) (drop_all c.lives.stop-index stops (omega arith)) (c.lives.invariant s given spaced between)) c.in_ok-course-2.ensures.follows)

pub returns-clause-output : goal.returns-clause-output
returns-clause-output c = λ s given spaced between.
    let args = given_by c.args.compiled.now c.args.marks.now c.args.input.now (record c.args.how { mode = c.lives.mode }) in
    let stops = c.args.stops.now in
    last_output s args stops c.lives.courses.items c.in_ok-course-2.course (view_of c.lives.disk) (view_of c.live_out.new.disk) (other_mode (given_by c.args.compiled.now c.args.marks.now c.args.input.now c.args.how) c.lives.mode s given) spaced
    (subst (λ (rest : List Stop). IsSoFar s c.args.how.every c.args.how.until stops c.lives.courses.items rest (view_of c.lives.disk)) (drop_all c.lives.stop-index stops (omega arith)) (c.lives.invariant s given spaced between)) c.in_ok-course-2.ensures.follows
