use Rattle.std.proofs.Common.{◌≡◌, max, drop}
use Rattle.machine_code.specs.CodeView.{home}
use Rattle.machine_code.proofs.valid.home.Given as goal

abbrev pub invariant-loop-f : goal.invariant-loop-f
invariant-loop-f l = max l.home (home (drop l.f-index l.f-items) l.p) ≡ home l.f-items l.p
