-- What a call, or a run of calls, keeps of a disk, whatever it answers.
use Rattle.std.specs.Prelude.{◌≡◌, ◌⊎◌, ◌↔◌, ◌≤◌, ℕ, IsTrue}
use Rattle.disk_model.specs.Store.{Store}
use Rattle.disk_model.specs.View.{View, Steady}

-- The contents are as they were, and what a crash may leave of them, now and since each earlier time.
pub record Untouched (old new : View) : Type 0 where
  pub tells : new.tells ≡ old.tells
  pub tells_past : new.tells_past ≡ old.tells_past
  pub seen : IsTrue old.tells → new.seen ≡ old.seen
  pub crash : IsTrue old.tells → (c : Store) → new.may_leave c ↔ old.may_leave c
  pub later : IsTrue old.tells_past → old.moment ≤ new.moment
  pub past : IsTrue old.tells_past → (t : ℕ) (c : Store) → t ≤ old.moment → new.left_since t c ↔ old.left_since t c

-- every crash now leaves a store with P
abbrev pub LeavesNow : (Store → Type 0) → View → Type 0
LeavesNow P v = IsTrue v.tells → (c : Store) → v.may_leave c → P c

-- What a crash may leave at a moment from the first view to the second, it might have left at the first, or it has P.
pub record AddsOnly (old new : View) (P : Store → Type 0) : Type 0 where
  pub tells : new.tells ≡ old.tells
  pub tells_past : new.tells_past ≡ old.tells_past
  pub later : IsTrue old.tells_past → old.moment ≤ new.moment
  pub now : IsTrue old.tells → (c : Store) → new.may_leave c → old.may_leave c ⊎ P c
  pub before : IsTrue old.tells_past → (t : ℕ) (c : Store) → t ≤ old.moment → new.left_since t c → old.left_since t c ⊎ P c

-- Where every crash at entry leaves a store with P, so does every crash at each moment.
abbrev pub Protects : (Store → Type 0) → View → View → Type 0
Protects P old new = LeavesNow P old → AddsOnly old new P

-- `stands` is what a store stands for, `newest` the number of its newest image, `of_call` what the calls were given, and `images` holds where they lose no image.
pub record KeepsStanding {X : Type 0} (stands : X → Store → Type 0) (newest : Store → ℕ) (of_call : X → Type 0) (images : Type 0) (old new : View) : Type 0 where
  pub steady : Steady old new
  pub any_moment : (x : X) → of_call x → Protects (stands x) old new
  pub no_image_lost : images → (j : ℕ) → Protects (λ c. j ≤ newest c) old new
