use Rattle.run_images.proofs.AlikeLaws.{begun_is_of_source}
use Rattle.run_images.proofs.life_laws.begun_lives_are_of_their_source.Goals as goal

pub returns : goal.returns
returns c = record {
  law = begun_is_of_source
      (record { one = c.runs_give_one_answer.ensures.law; shows = c.runs_show_what_they_do.ensures.law; passes = c.runs_pass_what_they_reach.ensures.law; means = c.graphs_mean_their_programs.ensures.law })
      (record { alike = c.codes_run_alike.ensures.alike; agree = c.codes_run_alike.ensures.memory; pointers = c.codes_keep_pointers.ensures.law; ends = c.checkpoints_end_ticks.ensures.law; behind = c.codes_stand_behind.ensures.law });
}
