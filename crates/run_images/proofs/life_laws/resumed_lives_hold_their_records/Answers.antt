use Rattle.run_images.proofs.EntryLaws.{entry_held, entry_stands}
use Rattle.run_images.proofs.life_laws.resumed_lives_hold_their_records.Goals as goal

pub returns-clause-stand : goal.returns-clause-stand
returns-clause-stand c = λ s v every fill rs file o is compiled stands at. entry_stands s v every fill rs file o compiled stands at
    (record { one = c.runs_give_one_answer.ensures.law; shows = c.runs_show_what_they_do.ensures.law; passes = c.runs_pass_what_they_reach.ensures.law; means = c.graphs_mean_their_programs.ensures.law })
    (record { alike = c.codes_run_alike.ensures.alike; agree = c.codes_run_alike.ensures.memory; pointers = c.codes_keep_pointers.ensures.law; ends = c.checkpoints_end_ticks.ensures.law; behind = c.codes_stand_behind.ensures.law }) is

pub returns-clause-held : goal.returns-clause-held
returns-clause-held c = entry_held
