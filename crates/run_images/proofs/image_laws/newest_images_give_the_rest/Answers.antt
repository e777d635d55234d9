use Rattle.run_images.proofs.ImageLaws.{newest_rest}
use Rattle.run_images.proofs.image_laws.newest_images_give_the_rest.Goals as goal

pub returns : goal.returns
returns c = record { law = newest_rest }
