use Rattle.std.proofs.Common.{◌≡◌, ◌≤◌, ◌-◌, length}
use Rattle.image_format.specs.Reading.{runs_at, rest_of}
use Rattle.image_format.proofs.view.behind_runs.Given as goal

abbrev pub invariant-loop : goal.invariant-loop
invariant-loop l = record {
  within : length l.rest ≤ length l.runs;
  least : l.least ≤ 262145;
  read : rest_of (runs_at (l.count - l.counter) l.end l.least l.rest) ≡ rest_of (runs_at l.count l.end 0 l.runs);
}
