use Rattle.c_reader.proofs.Accepted.{one_program}
use Rattle.c_reader.proofs.laws.texts_spell_one_program.Goals as goal

pub returns : goal.returns
returns c = record { law = one_program }
