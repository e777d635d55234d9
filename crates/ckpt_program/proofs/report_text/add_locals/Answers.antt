use Rattle.std.proofs.Common.{arith}
use Rattle.ckpt_program.proofs.RunTexts.{local_passed}
use Rattle.ckpt_program.proofs.report_text.add_locals.Goals as goal

pub locals-preserved : goal.locals-preserved
locals-preserved c = local_passed c.args.program.now c.args.row.now c.cells-cells.result c.locals.cell _ c.locals.text.items c.add_local.new.text.items (omega arith) c.in_ok-add_local.ensures.answer c.locals.invariant
