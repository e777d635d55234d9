use Rattle.std.proofs.Common.{refl}
use Rattle.c_meaning.proofs.Going.{no_items}
use Rattle.c_meaning.proofs.Did.{nothing_took, byte_took}
use Rattle.c_meaning.proofs.progress.Progress.take.Goals as goal

pub returns-in-None-clause-took : goal.returns-in-None-clause-took
returns-in-None-clause-took c = nothing_took c.args.self.now (no_items c.args.self.now.input.now c.in-None.ensures.cases)

pub returns-in-Some-clause-took : goal.returns-in-Some-clause-took
returns-in-Some-clause-took c = byte_took c.args.self.now _ c.in-Some.byte.now c.in-Some.rest.now c.in-Some.ensures.cases.0 refl refl refl refl
