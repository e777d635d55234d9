use Rattle.run_images.proofs.EndLaws.{ends_as_source}
use Rattle.run_images.proofs.life_laws.lives_end_as_their_source.Goals as goal

pub returns : goal.returns
returns c = record { law = ends_as_source }
