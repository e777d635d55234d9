use Rattle.std.proofs.Common.{◌≡◌, max, drop}
use Rattle.machine_code.specs.CodeView.{most_locals}
use Rattle.machine_code.proofs.code.Code.most_locals.Given as goal

abbrev pub invariant-loop-f : goal.invariant-loop-f
invariant-loop-f l = max l.most (most_locals (drop l.f-index l.f-items)) ≡ most_locals l.f-items
