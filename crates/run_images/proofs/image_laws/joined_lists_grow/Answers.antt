use Rattle.run_images.proofs.JoinLaws.{joined_grow}
use Rattle.run_images.proofs.image_laws.joined_lists_grow.Goals as goal

pub returns : goal.returns
returns c = record { law = joined_grow }
