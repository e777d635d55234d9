use Rattle.flow_graph.proofs.MainWhole.{main_is_whole, excludes_are}
use Rattle.flow_graph.proofs.laws.main_graphs_are_whole.Goals as goal

pub returns : goal.returns
returns c = record { law = main_is_whole; excludes = excludes_are }
