use Rattle.std.proofs.Common.{rules}
use Rattle.alias_sets.specs.declared.flows.PointerVar.TheVariants as var
use Rattle.alias_sets.specs.declared.flows.Source.TheVariants as source'
use Rattle.alias_sets.specs.Numbers.{FlowNumbered}
use Rattle.alias_sets.specs.Nodes.{IsBelow}
use Rattle.alias_sets.proofs.NodeLaws.{at_place, goals_step, goals_end}
use Rattle.alias_sets.proofs.nodes.goals_of.Goals as goal

pub add_goal-requires-clause-numbered : goal.add_goal-requires-clause-numbered
add_goal-requires-clause-numbered c = at_place (FlowNumbered c.args.variables.now.keys) c.args.flows.now c.flows.flow-index _ c.requires.numbered c.flows-test.true

pub add_goal-requires-clause-within : goal.add_goal-requires-clause-within
add_goal-requires-clause-within c = at_place (λ f. IsBelow c.args.width f.from) c.args.flows.now c.flows.flow-index _ c.requires.within c.flows-test.true

pub flows-preserved : goal.flows-preserved
flows-preserved c = record {
  len = search rules;
  wide = c.in_ok-add_goal.ensures.wide;
  goals = goals_step c.args.variables.now.keys c.args.flows.now c.flows.flow-index (record { into = var.Cell 0; from = source'.Nothing }) c.flows.goals.items c.add_goal.new.goals.items c.flows-test.true c.flows.invariant.goals c.in_ok-add_goal.ensures.kept c.in_ok-add_goal.ensures.added c.in_ok-add_goal.ensures.only;
}

pub returns-clause-answer : goal.returns-clause-answer
returns-clause-answer c = goals_end c.args.variables.now.keys c.args.flows.now c.flows.flow-index c.flows.goals.items c.flows-test.false c.flows.invariant.goals
