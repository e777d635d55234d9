use Rattle.std.proofs.Common.{refl}
use Rattle.disk_model.specs.MemoryDisk.{view_of}
use Rattle.ckpt_runner.specs.Arguments.{given_by}
use Rattle.drilled_lives.proofs.NextLaws.{out_follows}
use Rattle.drilled_lives.proofs.stopping.live_out.Goals as goal

pub returns : goal.returns
returns c =
    let args = given_by c.args.compiled.now c.args.marks.now c.args.input.now c.args.how in
    record { follows = out_follows args 0 c.args.disk.now c.fuse.new.self (view_of c.live_to.new.disk) c.fuse.ensures.exact (c.live_to.ensures.stand refl) c.live_to.ensures.later c.in_ok-course.course (c.in_ok-course.ensures.lives refl) }
