use Rattle.alias_sets.proofs.Variables.{is_inserted, apart}
use Rattle.alias_sets.proofs.numbering.number.Goals as goal

pub returns-in-Ok-clause-answer : goal.returns-in-Ok-clause-answer
returns-in-Ok-clause-answer c = (is_inserted c.args.variables.now.keys c.insert.new.self.keys c.args.variable c.in-Ok.ensures.keys).0

pub returns-in-Ok-clause-kept : goal.returns-in-Ok-clause-kept
returns-in-Ok-clause-kept c = (is_inserted c.args.variables.now.keys c.insert.new.self.keys c.args.variable c.in-Ok.ensures.keys).1

pub returns-in-Ok-clause-apart : goal.returns-in-Ok-clause-apart
returns-in-Ok-clause-apart c = apart c.insert.new.self.keys c.insert.ensures.unique
