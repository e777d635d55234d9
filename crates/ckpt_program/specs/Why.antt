-- What `why` prints: the name of a cell, what it is under an EXCLUDE_HERE, and the walks that show it.
use Rattle.std.specs.Prelude.{◌≡◌, ◌<◌, ◌≤◌, ℕ, List, [], ◌∷◌, ◌++◌, length, codes, Ok, Err}
use Rattle.std.specs.Fmt.{decimal}
use Rattle.path_laws.specs.Graph.{Graph}
use Rattle.exclusion_reason.specs.Reasons.{IsReason}
use Rattle.exclusion_reason.specs.declared.reason.Reason.{Reason}
use Rattle.exclusion_reason.specs.declared.reason.Reason.TheVariants.{Dead, ReadOnly, Kept}
use Rattle.c_tree.specs.declared.resolved.Resolved.{Resolved}
use Rattle.c_tree.specs.Layout.{cell_count}
use Rattle.c_tree.specs.Excludes.{excludes}
use Rattle.c_tree.specs.CellNames.{cell_name}
use Rattle.flow_graph.specs.MainGraph.{IsMainGraph}
use Rattle.ckpt_program.specs.Stage.{Stage}
use Rattle.ckpt_program.specs.declared.stop.Cause.{Cause}
use Rattle.ckpt_program.specs.declared.stop.Cause.TheVariants as cause

-- the program has EXCLUDE_HERE k, counted from 1, and cell c, counted from 0
pub record HasBoth (p : Resolved) (k c : ℕ) : Type 0 where
  pub exclude : k ≤ length (excludes p.main.body)
  pub cell : c < cell_count p

-- why it has not: there is no such EXCLUDE_HERE, or there is one, but no such cell
unfoldable pub LacksOne : Resolved → (k c : ℕ) → Cause → Type 0
LacksOne p k c (cause.NotAnExclude n) = (n ≡ k) × (length (excludes p.main.body) < k)
LacksOne p k c (cause.NotACell n) = (n ≡ c) × (k ≤ length (excludes p.main.body)) × (cell_count p ≤ c)
LacksOne p k c other = ⊥

-- both are looked up
abbrev pub LookedUp : Resolved → (k c : ℕ) → Stage (Unit {0})
LookedUp p k c (Ok u) = HasBoth p k c
LookedUp p k c (Err e) = LacksOne p k c e

-- the nodes of a walk, each with a blank before it
abbrev pub nodes_text : List ℕ → List ℕ
nodes_text [] = []
nodes_text (n ∷ walk) = 32 ∷ decimal n ++ nodes_text walk

-- a walk, behind the word for what it shows
abbrev pub walk_line : (word walk : List ℕ) → List ℕ
walk_line word walk = word ++ (nodes_text walk ++ codes "\n")

-- what a cell is, and the walks that show it
abbrev pub reason_text : Reason → List ℕ
reason_text Dead = codes " dead\n"
reason_text (ReadOnly need) = codes " read-only\n" ++ walk_line (codes "needed") need
reason_text (Kept need write) = codes " kept\n" ++ (walk_line (codes "needed") need ++ walk_line (codes "written") write)

-- the reason why cell c is kept under EXCLUDE_HERE k, or that it is not: in the graph of `main`, and in any that is as the text of the program says
pub record IsReasonIn (p : Resolved) (k c : ℕ) (reason : Reason) : Type 0 where
  pub graph : Graph
  pub of_main : IsMainGraph p graph
  pub is : (g : Graph) → IsMainGraph p g → IsReason g k c reason

-- the text names the cell and tells the reason
abbrev pub IsReasonText : Resolved → (k c : ℕ) → List ℕ → Type 0
IsReasonText p k c text = (reason : Reason) × IsReasonIn p k c reason × (text ≡ cell_name p c ++ reason_text reason)
