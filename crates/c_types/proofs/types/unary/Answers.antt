use Rattle.c_types.proofs.KindLaws.{unary_kind}
use Rattle.c_types.proofs.types.unary.Goals as goal

pub returns-clause-kept : goal.returns-clause-kept
returns-clause-kept c w t = rw c.in_ok-new.ensures (unary_kind w _ c.args.op (c.in_ok-x.ensures.kept w t))
