use Rattle.std.proofs.Common.{◌≡◌, drop, map}
use Rattle.c_types.specs.Directives as spec
use Rattle.c_types.proofs.directives.+directives.Given as goal

abbrev pub invariant-stmts-loop-s : goal.invariant-stmts-loop-s
invariant-stmts-loop-s l = spec.all (map (spec.stmt l.in_main) (drop l.s-index l.stmts)) ≡ spec.all (map (spec.stmt l.in_main) l.stmts)

abbrev pub invariant-arms-loop-a : goal.invariant-arms-loop-a
invariant-arms-loop-a l = spec.all (map (spec.arm l.in_main) (drop l.a-index l.arms)) ≡ spec.all (map (spec.arm l.in_main) l.arms)
