-- Edges that were appended, the last first.
use Rattle.std.specs.Prelude.{◌≡◌, ℕ, ◌+◌, ◌≤◌, List, ◌++◌, Option, Some, None, map, sum, reverse, length, take, drop}
use Rattle.c_tree.specs.declared.resolved.RStmt.{RStmt}
use Rattle.c_tree.specs.declared.resolved.RStmt.TheVariants as stmt
use Rattle.c_tree.specs.declared.resolved.RArm.{RArm}
use Rattle.c_tree.specs.Nodes.{node_count, arm_count}
use Rattle.access_summary.specs.Edges as edges
use Rattle.access_summary.specs.Edges.{Edge, Targets, laid, arm_laid, entry_all, edges_all, entry_arms, edges_arms, last_of}

-- a statement that begins at a node, with its edges behind others
abbrev pub IsLaid : RStmt → ℕ → Targets → ℕ → List Edge → List Edge → Type 0
IsLaid s m to e xs ys = (e ≡ (laid s).entry m to) × (reverse ys ≡ (laid s).edges m to ++ reverse xs)

-- the statements of a block from i on
pub record Block (first : ℕ) (to : Targets) (old : List Edge) (items : List RStmt) (i m next : ℕ) (now : List Edge) : Type 0 where
  pub within : i ≤ length items
  pub number : m ≡ first + sum (map node_count (take i items))
  pub begins : next ≡ entry_all (map laid (drop i items)) m to
  pub stands : reverse now ≡ edges_all (map laid (drop i items)) m to ++ reverse old

abbrev pub last_laid : Option RStmt → edges.Laid
last_laid None = last_of None
last_laid (Some s) = laid s

-- the arms of an `if` from i on
pub record Arms (s : RStmt) (first : ℕ) (to : Targets) (old : List Edge) (items : List RArm) (i m entry : ℕ) (now : List Edge) : Type 0 where
  pub last : Option RStmt
  pub is : s ≡ stmt.If items last
  pub within : i ≤ length items
  pub number : m ≡ first + sum (map arm_count (take i items))
  pub begins : entry ≡ entry_arms (map arm_laid (drop i items)) (last_laid last) m to
  pub stands : reverse now ≡ edges_arms (map arm_laid (drop i items)) (last_laid last) m to ++ reverse old
