use Rattle.c_types.proofs.KindLaws.{move_kind}
use Rattle.c_types.proofs.types.moved.Goals as goal

pub returns-clause-kept : goal.returns-clause-kept
returns-clause-kept c w p t = rw (c.in_ok-new.ensures, c.in_ok-new-2.ensures) (move_kind w _ _ c.args.direction p (c.in_ok-n.ensures.kept w t))
