-- How runs of a graph go on.
use Rattle.std.specs.Prelude.{◌≡◌, ℕ, ◌+◌, ◌⊎◌}
use Rattle.ckpt_base.specs.declared.ending.Ending.TheVariants.{Going}
use Rattle.c_tree.specs.State.{State}
use Rattle.c_tree.specs.Meaning.{over}
use Rattle.flow_graph.specs.Run.{Graphs, Spot, graph_run}

-- where a run stands that took its n ticks and wants another: with more ticks it goes on from there
pub record StandsAt (gs : Graphs) (x : Spot) (s : State) (n : ℕ) : Type 0 where
  pub at : Spot
  pub state : State
  pub going : graph_run gs x s n ≡ over Going state
  pub goes_on : (d : ℕ) → graph_run gs x s (n + d) ≡ graph_run gs at state d

-- a run with n ticks is over for good, or it stands somewhere and goes on from there
abbrev pub GoesOn : Graphs → Spot → State → ℕ → Type 0
GoesOn gs x s n = (((d : ℕ) → graph_run gs x s (n + d) ≡ graph_run gs x s n) × ((graph_run gs x s n).ending ≡ Going → ⊥)) ⊎ StandsAt gs x s n
