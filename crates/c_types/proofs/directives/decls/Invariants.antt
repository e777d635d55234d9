use Rattle.std.proofs.Common.{◌≡◌, drop}
use Rattle.c_types.specs.Directives as spec
use Rattle.c_types.proofs.directives.decls.Given as goal

abbrev pub invariant-loop-d : goal.invariant-loop-d
invariant-loop-d l = spec.decls_faults l.line (drop l.d-index l.decls) ≡ spec.decls_faults l.line l.decls
