use Rattle.std.proofs.Common.{◌≡◌, drop}
use Rattle.c_types.specs.Statements as spec
use Rattle.c_types.proofs.declarations.counts.Given as goal

abbrev pub invariant-loop-d : goal.invariant-loop-d
invariant-loop-d l = spec.counts l.file l.line (drop l.d-index l.decls) ≡ spec.counts l.file l.line l.decls
