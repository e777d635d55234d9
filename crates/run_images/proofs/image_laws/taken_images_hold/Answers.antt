use Rattle.run_images.proofs.HoldLaws.{taken_holds}
use Rattle.run_images.proofs.image_laws.taken_images_hold.Goals as goal

pub returns : goal.returns
returns c = record { law = λ s every node t es rs r m. taken_holds s every node t es rs r m c.runs_spare_excluded_cells.ensures.law }
