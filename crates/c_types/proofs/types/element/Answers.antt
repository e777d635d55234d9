use Rattle.c_tree.specs.declared.resolved.Direction.TheVariants.{Forward}
use Rattle.c_types.proofs.KindLaws.{move_kind}
use Rattle.c_types.proofs.types.element.Goals as goal

pub returns-clause-kept : goal.returns-clause-kept
returns-clause-kept c w p k = rw (c.in_ok-new.ensures, c.in_ok-new-2.ensures) (move_kind w _ _ Forward (c.in_ok-p.ensures.kept w p) (c.in_ok-k.ensures.kept w k))
