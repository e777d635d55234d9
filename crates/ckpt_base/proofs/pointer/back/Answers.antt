use Rattle.std.proofs.Common.{◌%◌, ◌^◌, sym, ◌∙◌, refl, arith}
use Rattle.ckpt_base.proofs.Moved.{back_wraps, chosen}
use Rattle.ckpt_base.proofs.pointer.back.Goals as goal

pub returns : goal.returns
returns c =
    let k = c.args.p % 2 ^ 32 in record {
      answer = c.at.ensures.answer
          ∙ sym (back_wraps c.args.p c.args.length k c.args.n _ c.if-p-length.false (omega arith) (omega arith) refl)
          ∙ sym (chosen k c.args.length _ _ c.if-p-length.false);
    }
