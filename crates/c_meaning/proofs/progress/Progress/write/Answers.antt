use Rattle.c_meaning.proofs.Did.{cell_did, through_did}
use Rattle.c_meaning.proofs.progress.Progress.write.Goals as goal

pub returns-in-Cell-clause-did : goal.returns-in-Cell-clause-did
returns-in-Cell-clause-did c = cell_did c.args.self.now c.in-Cell.c c.args.a c.set_word.new.words c.args.target c.in-Cell.is c.set_word.ensures.answer

pub returns-in-Ok-clause-did : goal.returns-in-Ok-clause-did
returns-in-Ok-clause-did c = through_did c.args.self.now c.in-Ok.c c.args.a c.set_word-in-Ok.new.words c.args.target c.in-Through.p c.as_slice.result.now c.in-Through.is c.in-Ok.ensures.answer c.as_slice.ensures c.set_word-in-Ok.ensures.answer
