use Rattle.one_life.proofs.living.live.Given as goal

abbrev pub ghosts-live_on : goal.ghosts-live_on
ghosts-live_on g a = record { name = a.blank.name; parts = a.blank.parts }
