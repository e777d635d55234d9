use Rattle.c_meaning.proofs.Did.{passed_did}
use Rattle.c_meaning.proofs.progress.Progress.perform.Goals as goal

pub returns-in-Checkpoint-clause-did : goal.returns-in-Checkpoint-clause-did
returns-in-Checkpoint-clause-did c = passed_did c.args.single c.args.self.now c.in-Checkpoint.is
