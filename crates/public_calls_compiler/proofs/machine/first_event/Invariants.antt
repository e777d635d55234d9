use Rattle.paged_machine.specs.Standing.{StandsIn}
use Rattle.paged_machine.specs.Fitting.{FitTogether}
use Rattle.public_calls_compiler.proofs.machine.first_event.Given as goal

abbrev pub invariant-loop : goal.invariant-loop
invariant-loop g l = record {
  stands : StandsIn l.code l.machine;
  fit : FitTogether l.code l.frames l.pages;
}
