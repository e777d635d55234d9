use Rattle.std.proofs.Common.{sym, subst, Some}
use Rattle.disk_model.specs.MemoryDisk.{view_of}
use Rattle.ckpt_runner.specs.Arguments.{given_by}
use Rattle.command_words.specs.declared.stops.Stop.{Stop}
use Rattle.drilled_lives.specs.Next.{Follows, IsCrashedBy}
use Rattle.drilled_lives.proofs.stopping.live_stopped.Goals as goal

pub returns-in_ok-course-in-AtStep-clause-follows : goal.returns-in_ok-course-in-AtStep-clause-follows
returns-in_ok-course-in-AtStep-clause-follows c =
    let args = given_by c.args.compiled.now c.args.marks.now c.args.input.now c.args.how in
    subst (λ (x : Stop). Follows args (Some x) (view_of c.args.disk.now) c.in_ok-course-in-AtStep.course (view_of c.live_to_step.new.disk)) (sym c.in-AtStep.is) c.in_ok-course-in-AtStep.ensures.follows

pub returns-in_ok-course-in-InCall-clause-follows : goal.returns-in_ok-course-in-InCall-clause-follows
returns-in_ok-course-in-InCall-clause-follows c =
    let args = given_by c.args.compiled.now c.args.marks.now c.args.input.now c.args.how in
    subst (λ (x : Stop). Follows args (Some x) (view_of c.args.disk.now) c.in_ok-course-in-InCall.course (view_of c.live_in_call.new.disk)) (sym c.in-InCall.is) c.in_ok-course-in-InCall.ensures.follows

pub returns-in_ok-course-in-AtStep-clause-crashed : goal.returns-in_ok-course-in-AtStep-clause-crashed
returns-in_ok-course-in-AtStep-clause-crashed c = subst (λ (x : Stop). IsCrashedBy x c.in_ok-course-in-AtStep.course c.live_to_step.new.disk) (sym c.in-AtStep.is) c.in_ok-course-in-AtStep.ensures.crashed

pub returns-in_ok-course-in-InCall-clause-crashed : goal.returns-in_ok-course-in-InCall-clause-crashed
returns-in_ok-course-in-InCall-clause-crashed c = subst (λ (x : Stop). IsCrashedBy x c.in_ok-course-in-InCall.course c.live_in_call.new.disk) (sym c.in-InCall.is) c.in_ok-course-in-InCall.ensures.crashed
