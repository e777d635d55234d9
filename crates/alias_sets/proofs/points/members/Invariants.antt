use Rattle.std.proofs.Common.{◌≡◌, ◌<◌, ◌↔◌, ℕ, true, Contains}
use Rattle.std.specs.List.Sorted.{IsStrictlyIncreasing}
use Rattle.cell_sets.specs.Sets.{has}
use Rattle.alias_sets.proofs.points.members.Given as goal

-- the numbers below this one, rising
abbrev pub invariant-objects : goal.invariant-objects
invariant-objects l = record {
  rising : IsStrictlyIncreasing l.objects.items;
  members : (o : ℕ) → Contains l.objects.items o ↔ ((o < l.object) × (has l.row o ≡ true));
}
