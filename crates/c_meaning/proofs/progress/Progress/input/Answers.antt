use Rattle.c_meaning.proofs.Did.{input_did}
use Rattle.c_meaning.proofs.progress.Progress.input.Goals as goal

pub returns-clause-did : goal.returns-clause-did
returns-clause-did c = input_did c.args.place.now c.take-a.result c.args.self.now c.take-a.new.self c.store.new.self c.store.result c.take-a.ensures.took c.store.ensures.did
