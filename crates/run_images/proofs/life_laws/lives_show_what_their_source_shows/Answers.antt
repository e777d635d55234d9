use Rattle.run_images.proofs.LifeLaws.{has_shown}
use Rattle.run_images.proofs.life_laws.lives_show_what_their_source_shows.Goals as goal

pub returns : goal.returns
returns c = record { law = λ s o es t of. has_shown s o of es t }
