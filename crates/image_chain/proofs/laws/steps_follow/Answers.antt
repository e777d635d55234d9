use Rattle.image_chain.proofs.OrderLaws.{first_after, inside_after, next_after, last_after}
use Rattle.image_chain.proofs.laws.steps_follow.Goals as goal

pub returns-clause-first : goal.returns-clause-first
returns-clause-first c = first_after

pub returns-clause-inside : goal.returns-clause-inside
returns-clause-inside c = inside_after

pub returns-clause-next : goal.returns-clause-next
returns-clause-next c = next_after

pub returns-clause-last : goal.returns-clause-last
returns-clause-last c = last_after
