use Rattle.drilled_lives.proofs.living.live_to.Given as goal

abbrev pub ghosts-go_to : goal.ghosts-go_to
ghosts-go_to g a = record { name = a.blank.name; parts = a.blank.parts }
