use Rattle.c_types.proofs.KindLaws.{equal_kind}
use Rattle.c_types.proofs.types.pointers.Goals as goal

pub returns-clause-kept : goal.returns-clause-kept
returns-clause-kept c w e h k = rw (c.in_ok-new.ensures, c.in_ok-new-2.ensures) (equal_kind w _ _ c.args.op e h k)
