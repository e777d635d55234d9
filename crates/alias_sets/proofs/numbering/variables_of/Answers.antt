use Rattle.alias_sets.proofs.Variables.{below_keeps, all_numbered}
use Rattle.alias_sets.specs.declared.flows.PointerVar.TheVariants as var
use Rattle.alias_sets.specs.declared.flows.Source.TheVariants as source'
use Rattle.alias_sets.proofs.numbering.variables_of.Goals as goal

pub flows-preserved : goal.flows-preserved
flows-preserved c = record {
  numbered = below_keeps c.flows.variables.keys c.number_flow.new.variables.keys c.args.flows.now c.flows.flow-index (record { into = var.Cell 0; from = source'.Nothing }) c.in_ok-number_flow.ensures.kept c.flows.invariant.numbered c.in_ok-number_flow.ensures.answer;
  apart = c.in_ok-number_flow.ensures.apart;
}

pub returns-clause-answer : goal.returns-clause-answer
returns-clause-answer c = all_numbered c.flows.variables.keys c.args.flows.now c.flows.flow-index c.flows-test.false c.flows.invariant.numbered
