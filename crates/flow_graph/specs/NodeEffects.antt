-- What a node may read and write, and which cell it kills.
use Rattle.std.specs.Prelude.{◌≡◌, ℕ, ◌⊎◌, List, [], Option, Some, None, slice_get}
use Rattle.c_tree.specs.declared.resolved.RPlace.{RPlace}
use Rattle.c_tree.specs.declared.resolved.RPlace.TheVariants as place
use Rattle.c_tree.specs.declared.resolved.Resolved.{Resolved}
use Rattle.access_summary.specs.declared.effects.Target.{Target}
use Rattle.access_summary.specs.declared.effects.Target.TheVariants as target'
use Rattle.access_summary.specs.declared.effects.Effect.{Effect}
use Rattle.access_summary.specs.declared.effects.Effect.TheVariants as effect
use Rattle.access_summary.specs.declared.touch.Access.TheVariants as access'
use Rattle.access_summary.specs.Effects.{seen, target, expr_effects, all_effects, test_effects, stored, perhaps_stored, call_effects}
use Rattle.access_summary.specs.Touch.{MayTouch, Touches}
use Rattle.access_summary.specs.Summaries.{FunctionReads, FunctionWrites}
use Rattle.flow_graph.specs.declared.node.NodeWork.{NodeWork}
use Rattle.flow_graph.specs.declared.node.NodeWork.TheVariants as work

-- the effects of what a node does, in a function or, for none, in `main`
abbrev pub work_effects : Option ℕ → NodeWork → List Effect
work_effects f (work.Declare p e) = stored f p (test_effects f e)
work_effects f (work.Set p e) = stored f p (expr_effects f e)
work_effects f (work.Call p g es) = perhaps_stored f p (call_effects f g es)
work_effects f (work.Input p) = perhaps_stored f p []
work_effects f (work.Return e) = expr_effects f e
work_effects f (work.ReturnCall g es) = call_effects f g es
work_effects f (work.Put e) = expr_effects f e
work_effects f (work.Print ps es) = all_effects f es
work_effects f (work.Test e) = expr_effects f e
work_effects f w = []

-- where a node stores
abbrev pub work_place : NodeWork → Option RPlace
work_place (work.Declare p e) = Some p
work_place (work.Set p e) = Some p
work_place (work.Call p g es) = p
work_place (work.Input p) = p
work_place w = None

-- what a store there may touch; a local of a function is no cell
abbrev pub place_target : Option ℕ → Option RPlace → Option Target
place_target f None = None
place_target f (Some (place.Cell c)) = Some (target'.Cell c)
place_target f (Some (place.Local i)) = None
place_target f (Some (place.At e)) = Some (target (seen f e).named)

-- some function that is called does so to cell c
abbrev pub CalledTouches : (ℕ → ℕ → Type 0) → List Effect → ℕ → Type 0
CalledTouches P es c = (g : ℕ) × (k : ℕ) × (slice_get es k ≡ Some (effect.Call g)) × P g c

-- a node may read cell c
abbrev pub NodeReads : Resolved → Option ℕ → NodeWork → ℕ → Type 0
NodeReads p f w c = Touches p access'.Read (work_effects f w) c ⊎ CalledTouches (FunctionReads p) (work_effects f w) c

-- a node may write cell c
abbrev pub NodeWrites : Resolved → Option ℕ → NodeWork → ℕ → Type 0
NodeWrites p f w c = Touches p access'.Write (work_effects f w) c ⊎ CalledTouches (FunctionWrites p) (work_effects f w) c

-- a store kills cell c: what it may touch is this cell, and no other
abbrev pub StoreKills : Resolved → Option Target → ℕ → Type 0
StoreKills p s c = (t : Target) × (s ≡ Some t) × MayTouch p t c × ((d : ℕ) → MayTouch p t d → d ≡ c)

-- a node kills what the store to its place kills
abbrev pub NodeKills : Resolved → Option ℕ → NodeWork → ℕ → Type 0
NodeKills p f w c = StoreKills p (place_target f (work_place w)) c
