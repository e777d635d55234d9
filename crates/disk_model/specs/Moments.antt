-- What a crash at each moment of a run of calls leaves.
use Rattle.std.specs.Prelude.{◌≡◌, ◌⊎◌, ℕ, ◌≤◌, IsTrue}
use Rattle.disk_model.specs.Store.{Store}
use Rattle.disk_model.specs.View.{View}

-- the outcomes of a crash, after this step
abbrev pub Among : (Store → Type 0) → (Store → Store → Type 0) → Store → Type 0
Among outcomes step c = (d : Store) × outcomes d × step d c

-- A crash at each moment from the first view to the second leaves a store that has P: at the moment of the answer, and where the past is told at all of them, also those of a run that began earlier.
pub record LeavesOnly (old new : View) (P : Store → Type 0) : Type 0 where
  pub tells : new.tells ≡ old.tells
  pub tells_past : new.tells_past ≡ old.tells_past
  pub now : IsTrue old.tells → (c : Store) → new.may_leave c → P c
  pub later : IsTrue old.tells_past → old.moment ≤ new.moment
  pub each : IsTrue old.tells_past → (c : Store) → new.left_since old.moment c → P c
  pub before : IsTrue old.tells_past → (t : ℕ) (c : Store) → t ≤ old.moment → new.left_since t c → old.left_since t c ⊎ P c
