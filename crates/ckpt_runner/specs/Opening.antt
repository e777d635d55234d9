-- What opening a store comes to.
use Rattle.std.specs.Prelude.{◌≡◌, ◌≢◌, ◌⊎◌, ℕ, ◌<◌, ◌≤◌, List, length, Some, None, Ok, Err, IsTrue, true, Contains}
use Rattle.ckpt_base.specs.Faults.{Rose}
use Rattle.disk_model.specs.Store.{Store}
use Rattle.disk_model.specs.View.{View}
use Rattle.image_format.specs.declared.fields.Fields.{Fields}
use Rattle.image_format.specs.declared.fields.Marks.{Marks}
use Rattle.image_chain.specs.Records.{Found, chain_in, newest_of}
use Rattle.ckpt_runner.specs.declared.how.Mode.{Mode}
use Rattle.ckpt_runner.specs.declared.how.Mode.TheVariants.{Run, Restart}
use Rattle.ckpt_runner.specs.declared.started.Started.{Started}
use Rattle.ckpt_runner.specs.declared.started.Started.TheVariants.{Begun, Resumed}
use Rattle.ckpt_runner.specs.declared.started.OpenFault.{OpenFault}
use Rattle.ckpt_runner.specs.declared.started.OpenFault.TheVariants.{Memory, Failed, Damaged, Occupied, OtherSource, OtherInput, Behind}
use Rattle.run_images.specs.Compiled.{CompiledView, cells_in}
use Rattle.run_images.specs.Origin.{Origin, begun_at, IsResumedAt}
use Rattle.image_chain.specs.Memory.{Joined}
use Rattle.recovery.specs.Fit.{ListsOnly}
use Rattle.machine_code.specs.State.{standing}
use Rattle.machine_code.specs.Valid.{has_checkpoint}
use Rattle.ckpt_runner.specs.LifeView.{LifeView}
use Rattle.ckpt_runner.specs.Unfit.{Fits, IsUnfit}

-- what a life is opened with
pub record Given : Type 0 where
  pub compiled : CompiledView
  pub marks : Marks
  pub input : List ℕ
  pub mode : Mode
  pub until : ℕ
  pub every : ℕ
  pub fill : ℕ

-- the chain of the store, with the fields of its newest record
pub record HasChain (c : Store) (found : Found) (newest : Fields) : Type 0 where
  pub chain : chain_in c ≡ Ok (Some found)
  pub newest_is : newest_of None found.records ≡ Some newest

-- its newest record is of the source and the input that were given, and the chain fits the program
pub record IsAccepted (g : Given) (c : Store) (found : Found) (newest : Fields) : Type 0 where
  pub has : HasChain c found newest
  pub mode : g.mode ≡ Restart
  pub same : newest.marks ≡ g.marks
  pub fits : Fits g.compiled (length g.input) (length c.output) found newest

-- the life is begun where no file is current; it is resumed from the newest record of a chain that is accepted, whose step the bound is not below
abbrev pub Opens : Given → Store → Started → Origin → Type 0
Opens g c Begun o = (chain_in c ≡ Ok None) × (o ≡ begun_at g.compiled g.marks g.every g.input)
Opens g c (Resumed image step) o =
    (found : Found) × (newest : Fields) × IsAccepted g c found newest × (newest.steps ≤ g.until)
    × (image ≡ newest.number) × (step ≡ newest.steps)
    × IsResumedAt g.compiled g.marks found.header.every g.fill g.input found.records c.output o

-- the ticks at the start of a life
abbrev pub ticks_at : Started → ℕ
ticks_at Begun = 0
ticks_at (Resumed image step) = step

-- Whatever the disk tells, a life starts at the entry, or behind a checkpoint of the program after so many ticks.
abbrev pub StartsAt : Given → Started → Origin → Type 0
StartsAt g Begun o = o ≡ begun_at g.compiled g.marks g.every g.input
StartsAt g (Resumed image step) o = (node : ℕ) × (q : ℕ) × Contains g.compiled.checkpoints node × (has_checkpoint g.compiled.code node q ≡ true) × (o.state ≡ standing q step)

-- the life is of what was given
pub record IsGiven (g : Given) (life : LifeView) : Type 0 where
  pub compiled : life.compiled ≡ g.compiled
  pub marks : life.marks ≡ g.marks
  pub input : life.input ≡ g.input
  pub within : life.machine.state.ticks ≤ g.until

-- Whatever the disk tells, a life goes on from a newest record that is of what was given, over cells of the program, to a bound that is not below it.
pub record Restarts (g : Given) (kept : Joined) (newest : Fields) : Type 0 where
  pub mode : g.mode ≡ Restart
  pub same : newest.marks ≡ g.marks
  pub cells : ListsOnly (cells_in g.compiled) kept
  pub node : Contains g.compiled.checkpoints newest.node
  pub input_place : newest.input_place ≤ length g.input
  pub directive : newest.directive ≤ g.compiled.directives
  pub within : newest.steps ≤ g.until

-- why the store is not opened, in the order of the tests
abbrev pub Refuses : OpenFault → Given → Store → Type 0
Refuses Memory g c = Unit {0}
Refuses Failed g c = Unit {0}
Refuses (Damaged file place) g c =
    (chain_in c ≡ Err (record { file = file; place = place }))
    ⊎ ((found : Found) × (newest : Fields) × HasChain c found newest × (g.mode ≡ Restart) × (newest.marks ≡ g.marks) × (file ≡ found.file) × IsUnfit place g.compiled (length g.input) (length c.output) found newest)
Refuses (Occupied image step) g c = (found : Found) × (newest : Fields) × HasChain c found newest × (g.mode ≡ Run) × (image ≡ newest.number) × (step ≡ newest.steps)
Refuses (OtherSource kept given) g c =
    (found : Found) × (newest : Fields) × HasChain c found newest × (g.mode ≡ Restart) × (kept ≡ newest.marks.source) × (given ≡ g.marks.source) × (kept ≢ given)
Refuses (OtherInput kept given) g c =
    (found : Found) × (newest : Fields) × HasChain c found newest × (g.mode ≡ Restart) × (newest.marks.source ≡ g.marks.source) × (kept ≡ newest.marks.input) × (given ≡ g.marks.input) × (kept ≢ given)
Refuses (Behind bound step) g c = (found : Found) × (newest : Fields) × IsAccepted g c found newest × (bound ≡ g.until) × (step ≡ newest.steps) × (bound < step)

-- what a refusal leaves of the disk: for want of memory no call was made; a refusal that is no fault of the disk comes before any change
pub record LeavesContents (old new : View) : Type 0 where
  pub seen : IsTrue old.tells → new.seen ≡ old.seen
  pub crash : IsTrue old.tells → (c : Store) → new.may_leave c → old.may_leave c
  pub faults : new.faults ≡ old.faults

abbrev pub Leaves : OpenFault → View → View → Type 0
Leaves Failed old new = Rose old.faults new.faults
Leaves e old new = LeavesContents old new
