use Rattle.flow_graph.proofs.WorkRuleLaws.{main_works_keep, function_works_keep}
use Rattle.flow_graph.proofs.laws.works_keep_the_rules.Goals as goal

pub returns : goal.returns
returns c = record { main = main_works_keep; functions = function_works_keep }
