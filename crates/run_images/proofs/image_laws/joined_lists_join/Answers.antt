use Rattle.run_images.proofs.JoinLaws.{joined_joins}
use Rattle.run_images.proofs.image_laws.joined_lists_join.Goals as goal

pub returns : goal.returns
returns c = record { law = joined_joins }
