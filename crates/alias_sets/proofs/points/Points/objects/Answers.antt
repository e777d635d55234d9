use Rattle.alias_sets.proofs.ChainLaws.{objects_held}
use Rattle.alias_sets.proofs.points.Points.objects.Goals as goal

pub returns-in-Some-clause-answer : goal.returns-in-Some-clause-answer
returns-in-Some-clause-answer c = rw (← c.self.view_is) (objects_held (record { variables = c.self.inside.variables.keys; rows = c.self.inside.rows.items }) c.args.variable c.in-Some.number c.index.result.now c.members.result c.self.invariant.0 c.self.invariant.1 c.in-Some.ensures.answer c.index.ensures c.members.ensures.answer)
