-- The stages that use the store of a command, each with its causes.
use Rattle.std.specs.Prelude.{◌≡◌, ◌≤◌, ℕ, IsTrue, List, Some, Result, Ok, Err}
use Rattle.ckpt_base.specs.Faults.{Rose}
use Rattle.disk_model.specs.Store.{Store}
use Rattle.disk_model.specs.View.{View, Steady}
use Rattle.disk_model.specs.Moments.{LeavesOnly}
use Rattle.disk_model.specs.Plate.{Plate}
use Rattle.image_chain.specs.Records.{chain_in}
use Rattle.chain_listing.specs.Store.{Lists}
use Rattle.ckpt_program.specs.Stage.{Stage}
use Rattle.ckpt_program.specs.declared.stop.Stop.{Stop}
use Rattle.ckpt_program.specs.declared.stop.Stop.TheVariants.{Because}
use Rattle.ckpt_program.specs.declared.stop.Cause.{Cause}
use Rattle.ckpt_program.specs.declared.stop.Cause.TheVariants as cause

-- why a store is not chosen
unfoldable pub FailsEntry : (old new : Plate) → Cause → Type 0
FailsEntry old new cause.DiskFault = Rose old.faults new.faults
FailsEntry old new c = ⊥

-- a store is chosen
abbrev pub Entered : (old new : Plate) → Stage (Unit {0})
Entered old new (Ok u) = Unit {0}
Entered old new (Err c) = FailsEntry old new c

-- the text lists the records of the store, where that is told
unfoldable pub IsListed : Plate → List ℕ → Type 0
IsListed disk text = (s : Store) → disk.seen ≡ Some s → Lists s text

-- why the records are not listed: a call on the disk failed, or the store is damaged there
unfoldable pub FailsListing : (old new : Plate) → Cause → Type 0
FailsListing old new cause.DiskFault = Rose old.faults new.faults
FailsListing old new (cause.Damaged file place) = (s : Store) → old.seen ≡ Some s → chain_in s ≡ Err (record { file = file; place = place })
FailsListing old new c = ⊥

-- the records of a store are listed
abbrev pub Listed : (old new : Plate) → Stage (List ℕ)
Listed old new (Ok text) = IsListed old text
Listed old new (Err c) = FailsListing old new c

-- the disk's count stays, but where the cause is a fault of the disk: then it has not fallen
abbrev pub CalmDisk : {A : Type 0} → Result A Stop → ℕ → ℕ → Type 0
CalmDisk (Err (Because cause.DiskFault)) old new = old ≤ new
CalmDisk result old new = new ≡ old

-- the contents are as they were, and a crash leaves nothing that it might not have left before
pub record OnlyLasting (old new : View) : Type 0 where
  pub tells : new.tells ≡ old.tells
  pub seen : IsTrue old.tells → new.seen ≡ old.seen
  pub crash : IsTrue old.tells → (c : Store) → new.may_leave c → old.may_leave c

-- so it was at every moment of a run of calls
pub record Stays (old new : View) : Type 0 where
  pub steady : Steady old new
  pub same : IsTrue old.tells → new.seen ≡ old.seen
  pub any_moment : IsTrue old.tells → LeavesOnly old new old.may_leave
