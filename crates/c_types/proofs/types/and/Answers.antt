use Rattle.c_types.proofs.KindLaws.{and_kind}
use Rattle.c_types.proofs.types.and.Goals as goal

pub returns-clause-kept : goal.returns-clause-kept
returns-clause-kept c w a b = rw (c.in_ok-new.ensures, c.in_ok-new-2.ensures) (and_kind w _ _ (c.in_ok-x.ensures.kept w a) (c.in_ok-y.ensures.kept w b))
