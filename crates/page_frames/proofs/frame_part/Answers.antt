use Rattle.std.proofs.Common.{◌≡◌, ◌+◌, ◌-◌, take, drop, ap, arith}
use Rattle.page_frames.proofs.frame_part.Goals as goal

pub returns-clause-part : goal.returns-clause-part
returns-clause-part c =
    let n : c.args.at + 4096 - c.args.at ≡ 4096 = omega arith in
    ap (λ k. take k (drop c.args.at c.args.s.now)) n
