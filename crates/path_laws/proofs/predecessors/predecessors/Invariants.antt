use Rattle.std.proofs.Common.{ℕ, ◌≡◌, length, take}
use Rattle.path_laws.specs.Reaching.{joins}
use Rattle.path_laws.specs.Solving.{listed, before_of}
use Rattle.path_laws.proofs.predecessors.predecessors.Given as goal

abbrev pub invariant-edges : goal.invariant-edges
invariant-edges l = record {
  len : length l.lists.items ≡ l.count;
  lists_so_far : (n m : ℕ) → listed (before_of l.lists.items m) n ≡ joins (take l.edge-index l.edges) n m;
}
