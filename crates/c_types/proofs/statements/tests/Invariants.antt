use Rattle.std.proofs.Common.{◌≡◌, map, drop}
use Rattle.c_types.specs.Statements as spec
use Rattle.c_types.proofs.statements.tests.Given as goal

abbrev pub invariant-loop-a : goal.invariant-loop-a
invariant-loop-a l = spec.tests l.file l.frame l.line (map (λ p. p.0) (map (spec.arm l.file l.frame) (drop l.a-index l.arms))) l.scope ≡ spec.tests l.file l.frame l.line (map (λ p. p.0) (map (spec.arm l.file l.frame) l.arms)) l.scope
