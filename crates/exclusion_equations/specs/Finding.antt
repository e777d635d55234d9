-- Finding the classes.
use Rattle.std.specs.Prelude.{ℕ, ◌+◌, ◌<◌, ◌≤◌, ◌≡◌, false, List, [], length, slice_index, slice_index_or}
use Rattle.cell_sets.specs.Sets.{Cells, universe_of, has}
use Rattle.path_laws.specs.Graph.{Graph, may_read, may_write, kills}
use Rattle.exclusion_equations.specs.declared.signature.Signature.{Signature}
use Rattle.exclusion_equations.specs.Classes.{AreAlike}

-- the three rows of a signature have this width
pub record HasWidth (width : ℕ) (s : Signature) : Type 0 where
  pub reads : universe_of s.reads ≡ width
  pub writes : universe_of s.writes ≡ width
  pub kills : universe_of s.kills ≡ width

-- the nodes that may read, that may write and that kill the cell
pub record IsSignature (g : Graph) (c : ℕ) (s : Signature) : Type 0 where
  pub reads : (n : ℕ) → has s.reads n ≡ may_read g n c
  pub writes : (n : ℕ) → has s.writes n ≡ may_write g n c
  pub kills : (n : ℕ) → has s.kills n ≡ kills g n c

-- two signatures have the same nodes
pub record AreSame (s t : Signature) : Type 0 where
  pub reads : (n : ℕ) → has s.reads n ≡ has t.reads n
  pub writes : (n : ℕ) → has s.writes n ≡ has t.writes n
  pub kills : (n : ℕ) → has s.kills n ≡ has t.kills n

abbrev pub signature_at : List Signature → ℕ → Signature
signature_at signatures k = slice_index_or signatures k (record { reads = []; writes = []; kills = [] })

-- the classes of the cells below `end`: class by cell, least cell by class, signature by class
pub record AreFound (g : Graph) (end : ℕ) (numbers firsts : List ℕ) (signatures : List Signature) : Type 0 where
  pub numbers_len : length numbers ≡ end
  pub few : length firsts ≤ end
  pub signatures_len : length signatures ≡ length firsts
  pub wide : (k : ℕ) → k < length firsts → HasWidth (length g.nodes) (signature_at signatures k)
  pub below : (c : ℕ) → c < end → slice_index numbers c < length firsts
  pub signed : (c : ℕ) → c < end → IsSignature g c (signature_at signatures (slice_index numbers c))
  pub apart : (k l : ℕ) → k < length firsts → l < length firsts → AreSame (signature_at signatures k) (signature_at signatures l) → k ≡ l
  pub first_in : (k : ℕ) → k < length firsts → (slice_index firsts k < end) × (slice_index numbers (slice_index firsts k) ≡ k)
  pub least : (k b : ℕ) → k < length firsts → b < slice_index firsts k → slice_index numbers b < k

-- the row keeps what it had, and has each number below the universe at which the set begins or ends
pub record Marks (set old new : Cells) : Type 0 where
  pub universe : universe_of new ≡ universe_of old
  pub kept : (q : ℕ) → has new q ≡ false → has old q ≡ false
  pub borders : (q : ℕ) → q + 1 < universe_of set → has new (q + 1) ≡ false → has set q ≡ has set (q + 1)

-- where the row has no border at q + 1, all nodes treat q and q + 1 alike
abbrev pub AreBorders : Graph → Cells → Type 0
AreBorders g borders = (q : ℕ) → q + 1 < g.cells → has borders (q + 1) ≡ false → AreAlike g q (q + 1)
