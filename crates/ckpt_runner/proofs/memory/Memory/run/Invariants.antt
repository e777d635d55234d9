use Rattle.std.proofs.Common.{◌≡◌, ◌+◌, ◌≤◌, ℕ, Bool, List, length, max, true}
use Rattle.ckpt_runner.specs.Snapshot.{IsApart, IsSnapped}
use Rattle.paged_machine.specs.Fitting.{FitTogether}
use Rattle.paged_machine.specs.Standing.{StandsIn}
use Rattle.ckpt_runner.proofs.OverLaws.{closed, GoesOver, ShrinksOver}
use Rattle.ckpt_runner.proofs.memory.Memory.run.Given as goal

abbrev pub invariant-faults : goal.invariant-faults
invariant-faults g l = record {
  live : l.self.machine.live ≡ true;
  stands : StandsIn l.code l.self.machine;
  fit : FitTogether l.code l.self.frames l.self.pages;
  copies : length l.self.copies ≡ length l.self.frames;
  size : length l.self.frames ≡ length l.fn.self.frames;
  marks : length l.self.pages.in_snapshot ≡ length l.self.pages.dirty;
  apart : IsApart l.self.pages;
  snapped : (takes : ℕ → Bool) (memory : List ℕ) → IsSnapped takes memory l.fn.self.pages l.fn.self.frames l.fn.self.copies → IsSnapped takes memory l.self.pages l.self.frames l.self.copies;
  steps : l.steps + l.fn.self.machine.state.ticks ≡ l.fn.steps + l.self.machine.state.ticks;
  within : l.self.machine.state.ticks ≤ max l.fn.self.machine.state.ticks l.until;
  goes : GoesOver l.code l.fn.self.machine.state l.fn.self.frames l.fn.self.pages l.self.machine.state l.self.frames l.self.pages;
  shrinks : ShrinksOver l.code l.until l.fn.self.machine.state l.self.machine.state;
}

abbrev pub decreases-faults : goal.decreases-faults
decreases-faults g l = closed l.self.pages.dirty
