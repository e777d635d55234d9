use Rattle.code_maker.proofs.CheckpointLaws.{checkpoints_there}
use Rattle.code_maker.proofs.valid_laws.checkpoints_are_there.Goals as goal

pub returns : goal.returns
returns c = record { law = checkpoints_there }
