use Rattle.c_tree.specs.Meaning.{calls_within}
use Rattle.c_tree.proofs.Agree.{piece_steady, calls_steady}
use Rattle.c_tree.proofs.laws.statements_are_steady.Goals as goal

pub returns : goal.returns
returns c = record { law = λ fs a s m. piece_steady (calls_within fs a) (calls_steady fs a) s m }
