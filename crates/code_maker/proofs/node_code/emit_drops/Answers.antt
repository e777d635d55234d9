use Rattle.std.proofs.Common.{arith}
use Rattle.code_maker.proofs.Emitted.{drops_kept}
use Rattle.code_maker.proofs.node_code.emit_drops.Goals as goal

pub drops-preserved : goal.drops-preserved
drops-preserved c = drops_kept c.drops.code.items c.args.code.now.items c.put.new.code.items c.args.n c.drops.i (omega arith) c.drops.invariant c.in_ok-put.ensures.code
