use Rattle.std.proofs.Common.{◌≡◌, ◌+◌, ◌-◌, ◌*◌, take, drop, ap, arith}
use Rattle.page_frames.proofs.cells_part.Goals as goal

pub returns-clause-part : goal.returns-clause-part
returns-clause-part c =
    let n : (c.args.first + c.args.count) * 8 - c.args.first * 8 ≡ c.args.count * 8 = omega arith in
    ap (λ k. take k (drop (c.args.first * 8) c.args.s.now)) n
