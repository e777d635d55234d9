-- Cells that all nodes treat alike.
use Rattle.std.specs.Prelude.{ℕ, ◌<◌, ◌≡◌, List, length, slice_index}
use Rattle.path_laws.specs.Graph.{Graph, may_read, may_write, kills}

-- every node has both cells or neither in its reads, in its writes and in its kills
pub record AreAlike (g : Graph) (a b : ℕ) : Type 0 where
  pub reads : (n : ℕ) → may_read g n a ≡ may_read g n b
  pub writes : (n : ℕ) → may_write g n a ≡ may_write g n b
  pub kills : (n : ℕ) → kills g n a ≡ kills g n b

-- the class of each cell, and the least cell of each class
pub record Partition : Type 0 where
  pub numbers : List ℕ
  pub firsts : List ℕ

abbrev pub class_of : Partition → ℕ → ℕ
class_of p c = slice_index p.numbers c

abbrev pub first_of : Partition → ℕ → ℕ
first_of p k = slice_index p.firsts k

abbrev pub class_count : Partition → ℕ
class_count p = length p.firsts

-- cells are in one class exactly where all nodes treat them alike, and the classes are numbered from 0 by their least cells
pub record AreClasses (g : Graph) (p : Partition) : Type 0 where
  pub each : length p.numbers ≡ g.cells
  pub below : (c : ℕ) → c < g.cells → class_of p c < class_count p
  pub alike : (a b : ℕ) → a < g.cells → b < g.cells → class_of p a ≡ class_of p b → AreAlike g a b
  pub together : (a b : ℕ) → a < g.cells → b < g.cells → AreAlike g a b → class_of p a ≡ class_of p b
  pub first_in : (k : ℕ) → k < class_count p → (first_of p k < g.cells) × (class_of p (first_of p k) ≡ k)
  pub least : (k b : ℕ) → k < class_count p → b < first_of p k → class_of p b < k
