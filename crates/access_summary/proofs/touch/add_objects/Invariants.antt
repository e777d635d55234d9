use Rattle.std.proofs.Common.{ℕ, ◌<◌, get_or}
use Rattle.access_summary.specs.Touch.{Adds, LiesIn}
use Rattle.access_summary.proofs.touch.add_objects.Given as goal

-- the cells of the objects so far are added
abbrev pub invariant-objects : goal.invariant-objects
invariant-objects l = Adds l.fn.row l.row (λ c. (k : ℕ) × (k < l.object-index) × LiesIn l.program (get_or l.objects k 0) c)
