use Rattle.std.proofs.Common.{refl, subst, sym, ◌∙◌, Some}
use Rattle.disk_model.specs.MemoryDisk.{view_of}
use Rattle.ckpt_runner.specs.Arguments.{given_by}
use Rattle.drilled_lives.specs.declared.course.Course.{Course}
use Rattle.command_words.specs.declared.stops.Stop.TheVariants.{InCall}
use Rattle.drilled_lives.specs.Next.{Follows}
use Rattle.drilled_lives.proofs.NextLaws.{call_follows, cut_crashed, cut_follows, is_crash, lived_crashed}
use Rattle.drilled_lives.proofs.stopping.live_in_call.Goals as goal

pub returns-in-Ok-clause-follows : goal.returns-in-Ok-clause-follows
returns-in-Ok-clause-follows c =
    let args = given_by c.args.compiled.now c.args.marks.now c.args.input.now c.args.how in
    call_follows args c.args.number c.args.disk.now c.fuse.new.self (view_of c.live_to.new.disk) c.fuse.ensures.exact (c.live_to.ensures.stand refl) c.live_to.ensures.later c.args.number c.args.pick c.in-Ok.course (c.in-Ok.ensures.lives refl)

pub returns-in_ok-course-in-Err-clause-follows : goal.returns-in_ok-course-in-Err-clause-follows
returns-in_ok-course-in-Err-clause-follows c =
    let args = given_by c.args.compiled.now c.args.marks.now c.args.input.now c.args.how in
    let v = view_of c.crash.new.self in
    subst (λ (x : Course). Follows args (Some (InCall c.args.number c.args.pick)) (view_of c.args.disk.now) x v) (sym c.in_ok-course-in-Err.ensures.course)
    (cut_follows args c.args.number c.args.disk.now c.fuse.new.self (view_of c.live_to.new.disk) c.fuse.ensures.exact (c.live_to.ensures.stand refl) c.live_to.ensures.later c.args.number c.args.pick c.in-Err.fault v (c.in-Err.ensures.opened refl)
    (is_crash c.args.pick c.live_to.new.disk c.crash.new.self c.crash.ensures.exact c.crash.ensures.found))

pub returns-in-Ok-clause-crashed : goal.returns-in-Ok-clause-crashed
returns-in-Ok-clause-crashed c = lived_crashed c.args.number c.args.pick c.in-Ok.course c.live_to.new.disk (c.in-Ok.ensures.lived refl)

pub returns-in_ok-course-in-Err-clause-crashed : goal.returns-in_ok-course-in-Err-clause-crashed
returns-in_ok-course-in-Err-clause-crashed c =
    cut_crashed c.args.number c.args.pick c.in-Err.fault c.in_ok-course-in-Err.course c.live_to.new.disk c.crash.new.self c.in_ok-course-in-Err.ensures.course (sym c.blown.ensures.answer ∙ c.in_ok-course-in-Err.ensures.blown) c.crash.ensures.exact
