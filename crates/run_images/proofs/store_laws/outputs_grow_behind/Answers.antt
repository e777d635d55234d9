use Rattle.run_images.proofs.OutputLaws.{grow_behind}
use Rattle.run_images.proofs.store_laws.outputs_grow_behind.Goals as goal

pub returns : goal.returns
returns c = record { law = grow_behind }
