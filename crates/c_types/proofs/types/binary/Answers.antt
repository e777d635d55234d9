use Rattle.std.proofs.Common.{refl}
use Rattle.c_types.proofs.types.binary.Goals as goal

pub returns-in-Equal-clause-kept : goal.returns-in-Equal-clause-kept
returns-in-Equal-clause-kept c w a b = c.equal.ensures.kept w refl a b

pub returns-in-Unequal-clause-kept : goal.returns-in-Unequal-clause-kept
returns-in-Unequal-clause-kept c w a b = c.equal-in-Unequal.ensures.kept w refl a b
