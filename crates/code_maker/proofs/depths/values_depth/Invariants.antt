use Rattle.std.proofs.Common.{◌≡◌, drop}
use Rattle.code_maker.specs.Depths as spec
use Rattle.code_maker.proofs.depths.values_depth.Given as goal

abbrev pub invariant-exprs : goal.invariant-exprs
invariant-exprs l = l.depth ≡ spec.values_depth (drop l.i l.exprs)
