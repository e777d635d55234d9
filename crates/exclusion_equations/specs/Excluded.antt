-- Cells that an image may leave out.
use Rattle.std.specs.Prelude.{ℕ, zero, suc, ◌<◌, ◌≤◌, ◌≡◌, true, List, [], ◌∷◌, length, slice_index_or, ◌⊎◌, ◌↔◌}
use Rattle.cell_sets.specs.Sets.{Cells, universe_of, has}
use Rattle.path_laws.specs.Graph.{Graph, may_write, is_checkpoint, is_directive, exclude_count}
use Rattle.path_laws.specs.Walks.{IsWalk, NoExclude, last_of}
use Rattle.path_laws.specs.Forgettable.{IsForgettable}

-- the walk n ∷ m ∷ w leaves EXCLUDE_HERE k and reaches a CHECKPOINT_HERE, with no EXCLUDE_HERE after its first node
pub record Leads (g : Graph) (k n m : ℕ) (w : List ℕ) : Type 0 where
  pub leaves : is_directive g k n ≡ true
  pub walk : IsWalk g (n ∷ m ∷ w)
  pub free : NoExclude g (m ∷ w)
  pub reaches : is_checkpoint g (last_of m w) ≡ true

-- c is forgettable at each CHECKPOINT_HERE that is reached so
abbrev pub IsDead : Graph → ℕ → ℕ → Type 0
IsDead g k c = (n m : ℕ) (w : List ℕ) → Leads g k n m w → IsForgettable g c (last_of m w)

-- a node of n ∷ w before the last may write c
abbrev pub WritesBefore : Graph → ℕ → ℕ → List ℕ → Type 0
WritesBefore g c n [] = ⊥
WritesBefore g c n (m ∷ w) = (may_write g n c ≡ true) ⊎ WritesBefore g c m w

-- c is not dead, and no node before a CHECKPOINT_HERE that is reached so may write it; the EXCLUDE_HERE itself does not count
abbrev pub IsReadOnly : Graph → ℕ → ℕ → Type 0
IsReadOnly g k c = (IsDead g k c → ⊥) × ((n m : ℕ) (w : List ℕ) → Leads g k n m w → WritesBefore g c m w → ⊥)

-- for each EXCLUDE_HERE, from 1 on, its two sets
pub record Sets : Type 0 where
  pub dead : List Cells
  pub read_only : List Cells

-- the k-th of the sets, from 1 on; 0 has the empty set, and so has a number that is too great
abbrev pub numbered : List Cells → ℕ → Cells
numbered sets zero = []
numbered sets (suc k) = slice_index_or sets k []

-- the dead and the read-only cells of EXCLUDE_HERE k; before the first one, which is 0, there are none
abbrev pub dead_of : Sets → ℕ → Cells
dead_of s k = numbered s.dead k

abbrev pub read_only_of : Sets → ℕ → Cells
read_only_of s k = numbered s.read_only k

-- the set has exactly the cells that pass the test
pub record IsExactly (cells : ℕ) (Test : ℕ → Type 0) (s : Cells) : Type 0 where
  pub universe : universe_of s ≡ cells
  pub exact : (c : ℕ) → c < cells → ((has s c ≡ true) ↔ Test c)

-- each EXCLUDE_HERE has its sets, and they are exactly its dead and its read-only cells
pub record AreExact (g : Graph) (s : Sets) : Type 0 where
  pub dead_len : length s.dead ≡ exclude_count g
  pub read_only_len : length s.read_only ≡ exclude_count g
  pub dead : (k : ℕ) → 1 ≤ k → k ≤ exclude_count g → IsExactly g.cells (IsDead g k) (dead_of s k)
  pub read_only : (k : ℕ) → 1 ≤ k → k ≤ exclude_count g → IsExactly g.cells (IsReadOnly g k) (read_only_of s k)
