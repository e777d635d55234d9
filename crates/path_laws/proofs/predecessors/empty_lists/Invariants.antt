use Rattle.std.proofs.Common.{ℕ, ◌≡◌, length, false}
use Rattle.path_laws.specs.Solving.{listed, before_of}
use Rattle.path_laws.proofs.predecessors.empty_lists.Given as goal

abbrev pub invariant-nodes : goal.invariant-nodes
invariant-nodes l = record {
  len : length l.lists.items ≡ l.n;
  none : (n m : ℕ) → listed (before_of l.lists.items m) n ≡ false;
}
