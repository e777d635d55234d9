-- What each command comes to: a row for each.
use Rattle.std.specs.Prelude.{◌≡◌, ℕ, List, length}
use Rattle.c_tree.specs.declared.resolved.Resolved.{Resolved}
use Rattle.c_tree.specs.Layout.{cell_count}
use Rattle.c_tree.specs.Nodes.{node_count}
use Rattle.c_tree.specs.Excludes.{excludes}
use Rattle.c_tree.specs.Meaning.{meaning}
use Rattle.c_meaning.specs.Plain.{IsPlain}
use Rattle.ckpt_program.specs.Sight.{Sight}
use Rattle.ckpt_program.specs.Stage.{Stage, ◌>>=◌, only}
use Rattle.ckpt_program.specs.Stages.{File, Source}
use Rattle.disk_model.specs.Plate.{Plate}
use Rattle.ckpt_program.specs.DiskStages.{Entered, Listed}
use Rattle.ckpt_program.specs.Upkeep.{ClearedIn, JoinedIn, TellsCleared, TellsJoined}
use Rattle.ckpt_program.specs.Listed.{IsListing}
use Rattle.ckpt_program.specs.Report.{IsReport}
use Rattle.ckpt_program.specs.Why.{LookedUp, IsReasonText}
use Rattle.ckpt_program.specs.declared.done.Counts.{Counts}
use Rattle.ckpt_program.specs.declared.done.Done.{Done}
use Rattle.ckpt_program.specs.declared.done.Done.TheVariants as done
use Rattle.ckpt_program.specs.declared.stop.Document.TheVariants as document

-- how much a program has
pub record IsCounted (tree : Resolved) (c : Counts) : Type 0 where
  pub cells : c.cells ≡ cell_count tree
  -- the end node of `main` is not counted
  pub nodes : c.nodes ≡ node_count tree.main.body
  pub excludes : c.excludes ≡ length (excludes tree.main.body)

-- it tells how much the program has
unfoldable pub Counted : Resolved → Done → Type 0
Counted tree (done.Accepted c) = IsCounted tree c
Counted tree d = ⊥

-- it is what the program means
unfoldable pub Evaluated : (tree : Resolved) (input : List ℕ) (until : ℕ) → Done → Type 0
Evaluated tree input until (done.Finished r) = IsPlain r.output.list r.ending r.ticks (meaning tree input until)
Evaluated tree input until d = ⊥

-- it prints such a text
unfoldable pub Printed : (List ℕ → Type 0) → Done → Type 0
Printed IsText (done.Printed t) = IsText t
Printed IsText d = ⊥

-- `check SRC`
abbrev pub Check : (source : List ℕ) (old new : Sight) → Stage Done
Check source old new = do
  tree ← Source source old new
  only (Counted tree)

-- `compile SRC`
abbrev pub Compile : (source : List ℕ) (old new : Sight) → Stage Done
Compile source old new = do
  tree ← Source source old new
  only (Printed (IsListing tree))

-- `report SRC`
abbrev pub Report : (source : List ℕ) (old new : Sight) → Stage Done
Report source old new = do
  tree ← Source source old new
  only (Printed (IsReport tree))

-- why cell c of a program is kept under its EXCLUDE_HERE k
abbrev pub Explained : Resolved → (k c : ℕ) → Stage Done
Explained tree k c = do
  both ← LookedUp tree k c
  only (Printed (IsReasonText tree k c))

-- `why SRC K CELL`
abbrev pub Why : (source : List ℕ) (k c : ℕ) (old new : Sight) → Stage Done
Why source k c old new = do
  tree ← Source source old new
  Explained tree k c

-- a program is evaluated on an input
abbrev pub OnInput : Resolved → (input : List ℕ) (until : ℕ) (old new : Sight) → Stage Done
OnInput tree input until old new = do
  bytes ← File document.Input input old new
  only (Evaluated tree bytes.list until)

-- `plain SRC INPUT`, in at most so many steps
abbrev pub Plain : (source input : List ℕ) (until : ℕ) (old new : Sight) → Stage Done
Plain source input until old new = do
  tree ← Source source old new
  OnInput tree input until old new

-- `images DIR`
abbrev pub Images : (old new : Plate) → Stage Done
Images old new = do
  entered ← Entered old new
  text ← Listed old new
  only (λ d. d ≡ done.Printed text)

-- `coalesce DIR`
abbrev pub Coalesce : (old new : Plate) → Stage Done
Coalesce old new = do
  entered ← Entered old new
  joined ← JoinedIn old new
  only (TellsJoined joined)

-- `clear DIR`
abbrev pub Clear : (old new : Plate) → Stage Done
Clear old new = do
  entered ← Entered old new
  cleared ← ClearedIn old new
  only TellsCleared
