-- A graph whose nodes read, write and kill cells.
use Rattle.std.specs.Prelude.{ℕ, ◌<◌, ◌≤◌, ◌≡◌, Bool, true, false, ◌||◌, ◌==◌, List, [], ◌∷◌, length, slice_get, count_by, Option, None}
use Rattle.std.specs.Option.{option_map_or}
use Rattle.cell_sets.specs.Sets.{Cells, universe_of, has}
use Rattle.path_laws.specs.declared.graph.Mark.{Mark}
use Rattle.path_laws.specs.declared.graph.Mark.TheVariants.{Plain, Checkpoint, Exclude}
use Rattle.path_laws.specs.declared.graph.Node.{Node}
use Rattle.path_laws.specs.Edge.{is_at}

pub record Graph : Type 0 where
  pub cells : ℕ
  pub entry : ℕ
  pub nodes : List Node

-- the nodes that node n has edges to
abbrev pub next_of : Graph → ℕ → Option ℕ × Option ℕ
next_of g n = option_map_or (λ d. d.next) (slice_get g.nodes n) (None, None)

abbrev pub mark_of : Graph → ℕ → Mark
mark_of g n = option_map_or (λ d. d.mark) (slice_get g.nodes n) Plain

-- the cells that node n may read, may write, and kills; none where there is no such node
abbrev pub reads_of : Graph → ℕ → Cells
reads_of g n = option_map_or (λ d. d.reads) (slice_get g.nodes n) []

abbrev pub writes_of : Graph → ℕ → Cells
writes_of g n = option_map_or (λ d. d.writes) (slice_get g.nodes n) []

abbrev pub kills_of : Graph → ℕ → Cells
kills_of g n = option_map_or (λ d. d.kills) (slice_get g.nodes n) []

abbrev pub may_read : Graph → ℕ → ℕ → Bool
may_read g n c = has (reads_of g n) c

abbrev pub may_write : Graph → ℕ → ℕ → Bool
may_write g n c = has (writes_of g n) c

abbrev pub kills : Graph → ℕ → ℕ → Bool
kills g n c = has (kills_of g n) c

-- whether there is an edge from n to m
abbrev pub has_edge : Graph → ℕ → ℕ → Bool
has_edge g n m = is_at (next_of g n).0 m || is_at (next_of g n).1 m

abbrev pub mark_is_checkpoint : Mark → Bool
mark_is_checkpoint Plain = false
mark_is_checkpoint Checkpoint = true
mark_is_checkpoint (Exclude k) = false

abbrev pub mark_is_exclude : Mark → Bool
mark_is_exclude Plain = false
mark_is_exclude Checkpoint = false
mark_is_exclude (Exclude k) = true

abbrev pub mark_is_directive : ℕ → Mark → Bool
mark_is_directive k Plain = false
mark_is_directive k Checkpoint = false
mark_is_directive k (Exclude j) = j == k

-- whether node n is a CHECKPOINT_HERE, an EXCLUDE_HERE, or EXCLUDE_HERE k
abbrev pub is_checkpoint : Graph → ℕ → Bool
is_checkpoint g n = mark_is_checkpoint (mark_of g n)

abbrev pub is_exclude : Graph → ℕ → Bool
is_exclude g n = mark_is_exclude (mark_of g n)

abbrev pub is_directive : Graph → ℕ → ℕ → Bool
is_directive g k n = mark_is_directive k (mark_of g n)

-- how many EXCLUDE_HERE there are
abbrev pub exclude_count : Graph → ℕ
exclude_count g = count_by (λ d. mark_is_exclude d.mark) g.nodes

-- every edge and the entry name a node, and the EXCLUDE_HERE are numbered from 1 to their number, each number at one node
pub record IsWhole (g : Graph) : Type 0 where
  pub edges : (n m : ℕ) → has_edge g n m ≡ true → m < length g.nodes
  pub entry : g.entry < length g.nodes
  pub numbers : (k n : ℕ) → is_directive g k n ≡ true → (1 ≤ k) × (k ≤ exclude_count g)
  pub nodes : (k : ℕ) → 1 ≤ k → k ≤ exclude_count g → (n : ℕ) × (is_directive g k n ≡ true)
  pub one_node : (k n m : ℕ) → is_directive g k n ≡ true → is_directive g k m ≡ true → n ≡ m

-- the three sets of a node have this universe
pub record HasUniverse (cells : ℕ) (d : Node) : Type 0 where
  pub reads : universe_of d.reads ≡ cells
  pub writes : universe_of d.writes ≡ cells
  pub kills : universe_of d.kills ≡ cells

-- so have those of each node
abbrev pub AllHaveUniverse : ℕ → List Node → Type 0
AllHaveUniverse cells [] = Unit {0}
AllHaveUniverse cells (d ∷ ds) = HasUniverse cells d × AllHaveUniverse cells ds
