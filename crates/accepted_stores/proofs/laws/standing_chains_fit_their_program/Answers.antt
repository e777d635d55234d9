use Rattle.accepted_stores.proofs.FitLaws.{chain_fits}
use Rattle.accepted_stores.proofs.laws.standing_chains_fit_their_program.Goals as goal

pub returns : goal.returns
returns c = record {
  law = λ g s d found newest given. chain_fits
      (record { runs = c.codes_mean_their_programs.ensures.runs; there = c.checkpoints_are_there.ensures.law; directives = c.directives_are_there.ensures.law; exact = c.checkpoints_are_exact.ensures.exact })
      g s d found given newest;
}
