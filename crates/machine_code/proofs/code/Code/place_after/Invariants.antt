use Rattle.std.proofs.Common.{◌≡◌, ℕ, drop}
use Rattle.std.specs.Prelude.{◌&&◌, ◌==◌}
use Rattle.std.specs.List.{list_any}
use Rattle.machine_code.specs.CodeView.{node, place_after}
use Rattle.machine_code.proofs.code.Code.place_after.Given as goal

abbrev pub invariant-loop-k : goal.invariant-loop-k
invariant-loop-k l = (q : ℕ) → list_any (λ k. (node k == l.node) && (place_after k == q)) (drop l.k-index l.k-items) ≡ list_any (λ k. (node k == l.node) && (place_after k == q)) l.k-items
