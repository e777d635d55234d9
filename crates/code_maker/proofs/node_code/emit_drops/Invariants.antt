use Rattle.std.proofs.Common.{◌≡◌, ◌++◌, ◌-◌}
use Rattle.code_maker.specs.NodeCode.{drops}
use Rattle.code_maker.proofs.node_code.emit_drops.Given as goal

abbrev pub invariant-drops : goal.invariant-drops
invariant-drops l = l.code.items ++ drops (l.n - l.i) ≡ l.initial.code.items ++ drops l.n
