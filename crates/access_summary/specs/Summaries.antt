-- Which cells a function may read and write, with all that it reaches by calls.
use Rattle.std.specs.Prelude.{◌≡◌, ◌↔◌, ℕ, ◌+◌, ◌<◌, true, List, [], ◌∷◌, length, Some, slice_get, slice_index_or}
use Rattle.cell_sets.specs.Sets.{Cells}
use Rattle.path_laws.specs.Reaching.{in_row, AllWide}
use Rattle.c_tree.specs.declared.resolved.RFunction.{RFunction}
use Rattle.c_tree.specs.declared.resolved.Resolved.{Resolved}
use Rattle.c_tree.specs.Layout.{cell_count}
use Rattle.access_summary.specs.declared.effects.Effect.{Effect}
use Rattle.access_summary.specs.declared.effects.Effect.TheVariants as effect
use Rattle.access_summary.specs.declared.touch.Access.{Access}
use Rattle.access_summary.specs.declared.touch.Access.TheVariants as access'
use Rattle.access_summary.specs.Effects.{stmt_effects}
use Rattle.access_summary.specs.Touch.{Touches}

-- ---- the effects of each function

-- those of the functions from the f-th on
abbrev pub bodies_from : ℕ → List RFunction → List (List Effect)
bodies_from f [] = []
bodies_from f (g ∷ gs) = stmt_effects (Some f) g.body ∷ bodies_from (f + 1) gs

abbrev pub bodies : Resolved → List (List Effect)
bodies p = bodies_from 0 p.functions

-- those of function f; none where there is no such function
abbrev pub body_of : List (List Effect) → ℕ → List Effect
body_of bs f = slice_index_or bs f []

-- ---- calls

-- the text of function f calls function g
abbrev pub Calls : List (List Effect) → ℕ → ℕ → Type 0
Calls bs f g = (k : ℕ) × (slice_get (body_of bs f) k ≡ Some (effect.Call g))

-- calls lead from f through the functions of the list to g
abbrev pub IsCallChain : List (List Effect) → ℕ → List ℕ → ℕ → Type 0
IsCallChain bs f [] g = f ≡ g
IsCallChain bs f (h ∷ w) g = Calls bs f h × IsCallChain bs h w g

-- ---- functions

-- f, or a function that f reaches by calls, may do so to cell c
abbrev pub ReachesAccess : Resolved → List (List Effect) → Access → ℕ → ℕ → Type 0
ReachesAccess p bs a f c = (g : ℕ) × (w : List ℕ) × IsCallChain bs f w g × Touches p a (body_of bs g) c

-- function f may read cell c
abbrev pub FunctionReads : Resolved → ℕ → ℕ → Type 0
FunctionReads p f c = ReachesAccess p (bodies p) access'.Read f c

-- function f may write cell c
abbrev pub FunctionWrites : Resolved → ℕ → ℕ → Type 0
FunctionWrites p f c = ReachesAccess p (bodies p) access'.Write f c

-- ---- what was found

-- a set for each function: the cells that it may read, and those that it may write
pub record SummariesView : Type 0 where
  pub reads : List Cells
  pub writes : List Cells

-- the sets have exactly the cells of each function
pub record AreSets (cells functions : ℕ) (P : ℕ → ℕ → Type 0) (sets : List Cells) : Type 0 where
  pub len : length sets ≡ functions
  pub wide : AllWide cells sets
  pub exact : (f c : ℕ) → f < functions → c < cells → (in_row sets f c ≡ true) ↔ P f c

-- what was found are the program's summaries
pub record AreSummariesOf (p : Resolved) (s : SummariesView) : Type 0 where
  pub reads : AreSets (cell_count p) (length p.functions) (FunctionReads p) s.reads
  pub writes : AreSets (cell_count p) (length p.functions) (FunctionWrites p) s.writes
