use Rattle.run_images.proofs.LastingLaws.{some_needed}
use Rattle.run_images.proofs.store_laws.newest_images_need_most.Goals as goal

pub returns : goal.returns
returns c = record {
  law = λ s d found newest is. some_needed
      (record { one = c.runs_give_one_answer.ensures.law; shows = c.runs_show_what_they_do.ensures.law; passes = c.runs_pass_what_they_reach.ensures.law; means = c.graphs_mean_their_programs.ensures.law })
      c.codes_mean_their_graphs.ensures.law s is
      (record { alike = c.codes_run_alike.ensures.alike; agree = c.codes_run_alike.ensures.memory; pointers = c.codes_keep_pointers.ensures.law; ends = c.checkpoints_end_ticks.ensures.law; behind = c.codes_stand_behind.ensures.law }) d found newest;
}
