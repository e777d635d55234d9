-- Rows over classes.
use Rattle.std.specs.Prelude.{ℕ, ◌<◌, ◌≡◌, Bool, true, false, ◌&&◌, ◌||◌, not, List, length, Option, Some, None}
use Rattle.cell_sets.specs.Sets.{Cells, has}
use Rattle.path_laws.specs.Graph.{Graph, has_edge, next_of, reads_of, writes_of, kills_of, is_checkpoint, is_exclude}
use Rattle.path_laws.specs.Reaching.{Reaches, in_row, AllWide}
use Rattle.exclusion_equations.specs.declared.equations.Effect.{Effect}
use Rattle.exclusion_equations.specs.declared.equations.Effect.TheVariants.{Reads, Kills}
use Rattle.exclusion_equations.specs.Classes.{Partition, first_of, class_count}

-- the row of each node below `count` has the numbers below `width` that pass the test
pub record AreRows (width count : ℕ) (test : ℕ → ℕ → Bool) (rows : List Cells) : Type 0 where
  pub rows_len : length rows ≡ count
  pub wide : AllWide width rows
  pub each : (n k : ℕ) → n < count → k < width → in_row rows n k ≡ test n k

-- the row of each node has the numbers below `width` for which some walk from the node comes to a goal with no stop before
pub record AreReached (g : Graph) (width : ℕ) (goal stop : ℕ → ℕ → Bool) (rows : List Cells) : Type 0 where
  pub rows_len : length rows ≡ length g.nodes
  pub wide : AllWide width rows
  pub sound : (n k : ℕ) → k < width → in_row rows n k ≡ true → Reaches (has_edge g) (λ m. goal m k) (λ m. stop m k) n
  pub complete : (n k : ℕ) → k < width → n < length g.nodes → Reaches (has_edge g) (λ m. goal m k) (λ m. stop m k) n → in_row rows n k ≡ true

-- whether the node that an edge goes to, if it is there, has k in its row
abbrev pub next_has : List Cells → Option ℕ → ℕ → Bool
next_has rows None k = false
next_has rows (Some m) k = in_row rows m k

-- whether some node after n has k in its row
abbrev pub after : Graph → List Cells → ℕ → ℕ → Bool
after g rows n k = next_has rows (next_of g n).0 k || next_has rows (next_of g n).1 k

-- whether node n reads, or kills, the cells of class k
abbrev pub effect_of : Effect → Graph → ℕ → Cells
effect_of Reads g n = reads_of g n
effect_of Kills g n = kills_of g n

abbrev pub has_effect : Effect → Graph → Partition → ℕ → ℕ → Bool
has_effect e g p n k = has (effect_of e g n) (first_of p k)

abbrev pub at_checkpoint : Graph → ℕ → ℕ → Bool
at_checkpoint g n k = is_checkpoint g n

abbrev pub at_exclude : Graph → ℕ → ℕ → Bool
at_exclude g n k = is_exclude g n

-- at a CHECKPOINT_HERE what the rows have after it
abbrev pub wanted_at : Graph → List Cells → ℕ → ℕ → Bool
wanted_at g wanted n k = is_checkpoint g n && after g wanted n k

-- at a node that is no EXCLUDE_HERE, the classes that it may write and that the rows have after it
abbrev pub written_at : Graph → Partition → List Cells → ℕ → ℕ → Bool
written_at g p coming n k = not (is_exclude g n) && (has (writes_of g n) (first_of p k) && after g coming n k)

-- the rows say where a CHECKPOINT_HERE comes after which a class is wanted, from rows that say where it is wanted
pub record AreSpoiled (g : Graph) (p : Partition) (rows : List Cells) : Type 0 where
  pub wanted : List Cells
  pub want : AreReached g (class_count p) (has_effect Reads g p) (has_effect Kills g p) wanted
  pub reached : AreReached g (class_count p) (wanted_at g wanted) (at_exclude g) rows

-- the rows say where a write comes and a CHECKPOINT_HERE after it, from rows that say where a CHECKPOINT_HERE comes
pub record AreWritten (g : Graph) (p : Partition) (rows : List Cells) : Type 0 where
  pub coming : List Cells
  pub come : AreReached g (class_count p) (at_checkpoint g) (at_exclude g) coming
  pub reached : AreReached g (class_count p) (written_at g p coming) (at_exclude g) rows
