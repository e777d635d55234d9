use Rattle.std.proofs.Common.{◌≡◌, drop}
use Rattle.c_types.specs.Bodies as spec
use Rattle.c_types.proofs.bodies.objects.Given as goal

abbrev pub invariant-loop-d : goal.invariant-loop-d
invariant-loop-d l = spec.objects l.file l.line (drop l.d-index l.decls) ≡ spec.objects l.file l.line l.decls
