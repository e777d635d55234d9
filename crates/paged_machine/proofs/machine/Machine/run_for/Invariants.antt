use Rattle.std.proofs.Common.{◌≡◌, ◌+◌, ◌≤◌, ℕ}
use Rattle.paged_machine.specs.RunOn.{done_of}
use Rattle.paged_machine.proofs.RunOnLaws.{Holds}
use Rattle.paged_machine.proofs.ToGo.{to_go}
use Rattle.paged_machine.proofs.machine.Machine.run_for.Given as goal

abbrev pub invariant-turns : goal.invariant-turns
invariant-turns g l = record {
  count : ℕ;
  counted : l.fn.left + done_of l.last ≡ count + l.rest + 1;
  fits : l.rest + 1 ≤ 18446744073709551615 + done_of l.last;
  held : Holds l.code l.pages l.until l.fn.self l.fn.frames count l.last l.self l.frames;
  steps : l.steps + l.fn.self.state.ticks ≡ l.fn.steps + l.self.state.ticks;
}

abbrev pub decreases-turns : goal.decreases-turns
decreases-turns g l = to_go l.code l.until l.self.state l.last
