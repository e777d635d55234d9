use Rattle.code_maker.proofs.Meaning.{code_means}
use Rattle.code_maker.proofs.laws.codes_mean_their_graphs.Goals as goal

pub returns : goal.returns
returns c = record { law = code_means }
