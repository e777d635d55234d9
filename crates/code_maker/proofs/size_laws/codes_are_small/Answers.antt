use Rattle.code_maker.proofs.SizePrograms.{code_small}
use Rattle.code_maker.proofs.size_laws.codes_are_small.Goals as goal

pub returns : goal.returns
returns c = record { law = code_small }
