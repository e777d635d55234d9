use Rattle.run_images.proofs.LifeLaws.{has_taken}
use Rattle.run_images.proofs.life_laws.images_of_lives_stand.Goals as goal

pub returns : goal.returns
returns c = record { law = λ s o es node w rs r is of takes. has_taken s o of c.runs_spare_excluded_cells.ensures.law is es node w rs r takes }
