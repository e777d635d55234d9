use Rattle.std.proofs.Common.{string_bytes}
use Rattle.machine_code.proofs.Listed.{one_more}
use Rattle.machine_code.proofs.lines.listing.Goals as goal

pub loop-p-preserved : goal.loop-p-preserved
loop-p-preserved c =
    one_more c.args.code.now.instrs c.loop-p.p c.fetch.result (string_bytes c.write_line.new.text) (string_bytes c.loop-p.text) _ c.fetch.ensures.answer c.in_ok-write_line.ensures c.loop-p.invariant
