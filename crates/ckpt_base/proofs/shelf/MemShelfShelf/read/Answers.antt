use Rattle.ckpt_base.proofs.FailedReads.{fails}
use Rattle.ckpt_base.proofs.shelf.MemShelfShelf.read.Goals as goal

pub returns-in-Err-clause-answer : goal.returns-in-Err-clause-answer
returns-in-Err-clause-answer c = fails c.args.self.now c.count.new.self _ _ _ c.requires.opened c.in-Err.ensures.answer.1 c.count.ensures.rises
