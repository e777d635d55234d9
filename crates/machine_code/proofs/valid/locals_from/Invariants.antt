use Rattle.std.proofs.Common.{◌≡◌, drop}
use Rattle.machine_code.specs.CodeView.{locals_from}
use Rattle.machine_code.proofs.valid.locals_from.Given as goal

abbrev pub invariant-loop-f : goal.invariant-loop-f
invariant-loop-f l = locals_from (drop l.f-index l.f-items) l.start ≡ locals_from l.f-items l.start
