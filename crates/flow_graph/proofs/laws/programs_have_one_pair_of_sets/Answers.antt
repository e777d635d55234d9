use Rattle.flow_graph.proofs.SameMain.{same_main}
use Rattle.flow_graph.proofs.laws.programs_have_one_pair_of_sets.Goals as goal

pub returns : goal.returns
returns c = record { law = λ p g h s a b e. c.same_graphs_have_the_same_sets.ensures.law g h s (same_main p g h a b) e }
