use Rattle.alias_sets.proofs.ChainLaws.{solved}
use Rattle.alias_sets.proofs.points.rows_of.Goals as goal

pub returns-clause-answer : goal.returns-clause-answer
returns-clause-answer c = solved c.args.variables.now.keys c.args.flows.now c.in_ok-edges.edges.items c.in_ok-goals.goals.items c.in_ok-stops.stops.items c.in_ok-edges.ensures.answer c.in_ok-goals.ensures.answer c.in_ok-rows.rows.items c.in_ok-stops.ensures.none c.requires.numbered c.in_ok-goals.ensures.len (rw (c.deref.ensures.value, c.deref-2.ensures.value, c.deref-3.ensures.value) at c.in_ok-rows.ensures.exact)
