use Rattle.std.proofs.Common.{◌≡◌, drop}
use Rattle.c_types.specs.Bodies as spec
use Rattle.c_types.proofs.bodies.declare_parameters.Given as goal

abbrev pub invariant-loop-p : goal.invariant-loop-p
invariant-loop-p l = spec.with_parameters l.scope (drop l.p-index l.parameters) ≡ spec.with_parameters l.fn.scope l.parameters
