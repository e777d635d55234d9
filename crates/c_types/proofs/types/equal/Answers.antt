use Rattle.c_types.proofs.types.equal.Goals as goal

pub returns-in_ok-y-in-Pointer-default-clause-kept :
    goal.returns-in_ok-y-in-Pointer-default-clause-kept
returns-in_ok-y-in-Pointer-default-clause-kept c w e a b = c.pointers.ensures.kept w e (rw c.in-Pointer-default.is-0 at a) (c.in_ok-y-in-Pointer-default.ensures.kept w b)
