-- Graphs whose nodes do the same.
use Rattle.std.specs.Prelude.{◌≡◌, ℕ, ◌<◌, length}
use Rattle.path_laws.specs.Graph.{Graph, next_of, mark_of, may_read, may_write, kills}

-- as many cells and nodes, with the same edges and marks, which do the same to each cell
pub record DoTheSame (g h : Graph) : Type 0 where
  pub cells : g.cells ≡ h.cells
  pub count : length g.nodes ≡ length h.nodes
  pub next : (n : ℕ) → next_of g n ≡ next_of h n
  pub marked : (n : ℕ) → mark_of g n ≡ mark_of h n
  pub reads : (n c : ℕ) → c < g.cells → may_read g n c ≡ may_read h n c
  pub writes : (n c : ℕ) → c < g.cells → may_write g n c ≡ may_write h n c
  pub kills : (n c : ℕ) → c < g.cells → kills g n c ≡ kills h n c
