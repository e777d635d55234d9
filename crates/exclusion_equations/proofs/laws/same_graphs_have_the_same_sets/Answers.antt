use Rattle.exclusion_equations.proofs.SameSets.{same_exact}
use Rattle.exclusion_equations.proofs.laws.same_graphs_have_the_same_sets.Goals as goal

pub returns : goal.returns
returns c = record { law = same_exact }
