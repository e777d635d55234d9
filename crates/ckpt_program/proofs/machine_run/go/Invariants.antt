use Rattle.std.proofs.Common.{◌≡◌, true}
use Rattle.paged_machine.specs.Standing.{StandsIn}
use Rattle.paged_machine.specs.Fitting.{FitTogether}
use Rattle.ckpt_program.proofs.machine_run.go.Given as goal

abbrev pub invariant-loop : goal.invariant-loop
invariant-loop g l = record {
  stands : StandsIn l.code l.machine;
  fit : FitTogether l.code l.frames l.pages;
  live : l.machine.live ≡ true;
}
