use Rattle.std.proofs.Common.{sym, ap, ◌∙◌}
use Rattle.std.specs.Option.{is_some}
use Rattle.std.proofs.lemmas.Bool.{false≢true}
use Rattle.alias_sets.proofs.Variables.{found_number, number_is_there}
use Rattle.alias_sets.proofs.numbering.number_of.Goals as goal

pub returns-clause-answer : goal.returns-clause-answer
returns-clause-answer c = found_number c.args.variables.now.keys c.args.variable c.get_index_of.result c.get_index_of.ensures.index

pub returns-clause-none : goal.returns-clause-none
returns-clause-none c none n h = false≢true (sym (ap is_some none) ∙ c.get_index_of.ensures.found ∙ number_is_there c.args.variables.now.keys c.args.variable n h)
