use Rattle.ckpt_program.proofs.machine_tests.on_machine.Given as goal

abbrev pub ghosts-run_code : goal.ghosts-run_code
ghosts-run_code a = record { name = a.blank.name; parts = a.blank.parts }
