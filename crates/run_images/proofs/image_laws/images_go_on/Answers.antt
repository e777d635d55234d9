use Rattle.run_images.proofs.ImageLaws.{since_more, images_more}
use Rattle.run_images.proofs.image_laws.images_go_on.Goals as goal

pub returns-clause-since : goal.returns-clause-since
returns-clause-since c = since_more

pub returns-clause-images : goal.returns-clause-images
returns-clause-images c = images_more
