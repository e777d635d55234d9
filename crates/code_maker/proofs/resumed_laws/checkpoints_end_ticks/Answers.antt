use Rattle.code_maker.proofs.ResumedLaws.{code_ends_ticks}
use Rattle.code_maker.proofs.resumed_laws.checkpoints_end_ticks.Goals as goal

pub returns : goal.returns
returns c = record { law = λ p code q n k s r a b checked means start out run e. code_ends_ticks p checked code means q n k s r a b start out run e }
