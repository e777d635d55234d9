use Rattle.flow_graph.proofs.CheckpointLaws.{checkpoints_exact, checkpoints_rise}
use Rattle.flow_graph.proofs.laws.checkpoints_are_exact.Goals as goal

pub returns : goal.returns
returns c = record { exact = checkpoints_exact; rising = checkpoints_rise }
