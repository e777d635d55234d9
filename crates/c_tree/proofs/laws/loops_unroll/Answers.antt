use Rattle.c_tree.proofs.Agree.{unrolls}
use Rattle.c_tree.proofs.laws.loops_unroll.Goals as goal

pub returns : goal.returns
returns c = record { law = λ e body u st w s n. unrolls e body u st w s n }
