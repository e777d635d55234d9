use Rattle.run_images.proofs.LifeLaws.{unwritten_stays}
use Rattle.run_images.proofs.image_laws.unwritten_words_stay.Goals as goal

pub returns : goal.returns
returns c = record { law = unwritten_stays }
