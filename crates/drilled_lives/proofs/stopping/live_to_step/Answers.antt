use Rattle.std.proofs.Common.{refl, subst, Some}
use Rattle.disk_model.specs.MemoryDisk.{view_of}
use Rattle.ckpt_runner.specs.Arguments.{given_by}
use Rattle.drilled_lives.specs.declared.course.Course.{Course}
use Rattle.drilled_lives.proofs.NextLaws.{Lives_to, is_crash, left_follows, not_left_crashed, step_follows}
use Rattle.drilled_lives.proofs.stopping.live_to_step.Goals as goal

pub returns-in-Left-clause-follows : goal.returns-in-Left-clause-follows
returns-in-Left-clause-follows c =
    let args = given_by c.args.compiled.now c.args.marks.now c.args.input.now c.args.how in
    let u = view_of c.fuse.new.self in
    let w = view_of c.live_to.new.disk in
    left_follows args 0 c.args.disk.now c.fuse.new.self w c.fuse.ensures.exact (c.live_to.ensures.stand refl) c.live_to.ensures.later c.args.step c.in-Left.started (view_of c.crash.new.self)
    (subst (λ (x : Course). Lives_to args (Some c.args.step) u x w) c.in-Left.is (c.in_ok-course.ensures.lives refl)) (is_crash 0 c.live_to.new.disk c.crash.new.self c.crash.ensures.exact c.crash.ensures.found)

pub returns-in_default-clause-follows : goal.returns-in_default-clause-follows
returns-in_default-clause-follows c =
    let args = given_by c.args.compiled.now c.args.marks.now c.args.input.now c.args.how in
    step_follows args 0 c.args.disk.now c.fuse.new.self (view_of c.live_to.new.disk) c.fuse.ensures.exact (c.live_to.ensures.stand refl) c.live_to.ensures.later c.args.step c.in_ok-course.course c.in_default.not-Left (c.in_ok-course.ensures.lives refl)

pub returns-in-Left-clause-crashed : goal.returns-in-Left-clause-crashed
returns-in-Left-clause-crashed c = (c.live_to.new.disk, c.crash.ensures.exact)

pub returns-in_default-clause-crashed : goal.returns-in_default-clause-crashed
returns-in_default-clause-crashed c = not_left_crashed c.args.step c.in_ok-course.course c.live_to.new.disk c.in_default.not-Left
