use Rattle.code_maker.proofs.Meaning.{code_means_program, code_means_no_other}
use Rattle.code_maker.proofs.laws.codes_mean_their_programs.Goals as goal

pub returns : goal.returns
returns c = record { runs = code_means_program; only = code_means_no_other }
