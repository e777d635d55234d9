use Rattle.std.proofs.Common.{ℕ, ◌≡◌, ◌&&◌, ltb, length}
use Rattle.cell_sets.specs.Sets.{has}
use Rattle.path_laws.specs.Graph.{may_read, may_write, kills}
use Rattle.exclusion_equations.proofs.signature.signature_of.Given as goal

abbrev pub invariant-nodes : goal.invariant-nodes
invariant-nodes l = record {
  reads_wide : length l.reading ≡ length l.graph.nodes;
  writes_wide : length l.writing ≡ length l.graph.nodes;
  kills_wide : length l.killing ≡ length l.graph.nodes;
  reads_so_far : (q : ℕ) → has l.reading q ≡ (ltb q l.n && may_read l.graph q l.c);
  writes_so_far : (q : ℕ) → has l.writing q ≡ (ltb q l.n && may_write l.graph q l.c);
  kills_so_far : (q : ℕ) → has l.killing q ≡ (ltb q l.n && kills l.graph q l.c);
}
