-- The edges of the graph of calls.
use Rattle.std.specs.Prelude.{◌≡◌, ℕ, ◌<◌, ◌⊎◌, true, false, List, length, Some, slice_get}
use Rattle.cell_sets.specs.Sets.{Cells}
use Rattle.path_laws.specs.Reaching.{joins, in_row, IsSolution}
use Rattle.access_summary.specs.declared.effects.Effect.{Effect}
use Rattle.access_summary.specs.declared.effects.Effect.TheVariants as effect
use Rattle.access_summary.specs.Summaries.{Calls}

-- the effect is a call of function m, one of so many, and stands in function n
abbrev pub IsCall : ℕ → ℕ → Effect → ℕ → ℕ → Type 0
IsCall caller count e n m = (n ≡ caller) × (m < count) × (e ≡ effect.Call m)

-- one of the effects is
abbrev pub HasCall : ℕ → ℕ → List Effect → ℕ → ℕ → Type 0
HasCall caller count es n m = (k : ℕ) × (e : Effect) × (slice_get es k ≡ Some e) × IsCall caller count e n m

-- one of the functions below f calls one of so many
abbrev pub CallsBelow : List (List Effect) → ℕ → ℕ → ℕ → ℕ → Type 0
CallsBelow bs count f n m = (n < f) × (m < count) × Calls bs n m

-- the new edges are the old ones and those of P
pub record AddsEdges (old new : List (ℕ × ℕ)) (P : ℕ → ℕ → Type 0) : Type 0 where
  pub kept : (n m : ℕ) → joins old n m ≡ true → joins new n m ≡ true
  pub added : (n m : ℕ) → P n m → joins new n m ≡ true
  pub only : (n m : ℕ) → joins new n m ≡ true → (joins old n m ≡ true) ⊎ P n m

-- the edges are the calls between the functions
pub record AreCalls (bs : List (List Effect)) (edges : List (ℕ × ℕ)) : Type 0 where
  pub added : (n m : ℕ) → CallsBelow bs (length bs) (length bs) n m → joins edges n m ≡ true
  pub only : (n m : ℕ) → joins edges n m ≡ true → CallsBelow bs (length bs) (length bs) n m

-- the sets are what walks come to, with no stop
pub record AreReached (edges : List (ℕ × ℕ)) (goals sets : List Cells) : Type 0 where
  pub stops : List Cells
  pub free : (n c : ℕ) → in_row stops n c ≡ false
  pub solution : IsSolution (joins edges) goals stops sets
