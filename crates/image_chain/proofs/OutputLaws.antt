-- The calls of a chain leave the output file as it was.
use Rattle.std.proofs.Common.{◌≡◌, ◌≢◌, refl, sym, ◌∙◌, ap, subst, IsTrue, List, Result}
use Rattle.disk_model.specs.declared.disk_file.DiskFile.{DiskFile}
use Rattle.disk_model.specs.declared.disk_file.DiskFile.TheVariants.{Output, One, Two}
use Rattle.disk_model.specs.Store.{file_of}
use Rattle.disk_model.specs.Change.{Change, Sync}
use Rattle.disk_model.specs.View.{View, Changes, SameFile}
use Rattle.disk_model.proofs.Calls.{others_stay, stays_twice}
use Rattle.image_format.specs.Image.{Image}
use Rattle.image_chain.specs.declared.chain.Current.{Current}
use Rattle.image_chain.specs.Append.{Alone, other}
use Rattle.image_chain.specs.Looking.{OnlyLooked}
use Rattle.image_chain.proofs.StepLaws.{other_image}

pub one_aside : One ≢ Output
one_aside e = cc

pub two_aside : Two ≢ Output
two_aside e = cc

pub not_two : One ≢ Two
not_two e = cc

-- a change of the file of a chain
pub step_output : {T E : Type 0} (chain : Current) (old new : View) (rs : List Image) (change : Change) (result : Result T E) → IsTrue old.tells → Alone chain old rs → Changes chain.file change result old new → SameFile Output old new
step_output chain old new rs change result tells alone call = others_stay chain.file Output change result old new alone.image_file tells call

-- two changes of it
pub steps_output : {T E T' E' : Type 0} (chain : Current) (old mid new : View) (rs : List Image) (first second : Change) (result : Result T E) (next : Result T' E') → IsTrue old.tells → Alone chain old rs → Changes chain.file first result old mid → Changes chain.file second next mid new → SameFile Output old new
steps_output chain old mid new rs first second result next tells alone call more =
    stays_twice Output old mid new (step_output chain old mid rs first result tells alone call) (others_stay chain.file Output second next mid new alone.image_file (subst IsTrue (sym call.tells) tells) more)

-- file One made lasting, and then file Two
pub synced_output : {T E T' E' : Type 0} (old mid new : View) (result : Result T E) (next : Result T' E') → IsTrue old.tells → Changes One Sync result old mid → Changes Two Sync next mid new → SameFile Output old new
synced_output old mid new result next tells first second =
    stays_twice Output old mid new (others_stay One Output Sync result old mid one_aside tells first) (others_stay Two Output Sync next mid new two_aside (subst IsTrue (sym first.tells) tells) second)

pub looked_output : (old mid new : View) → IsTrue mid.tells → SameFile Output old mid → OnlyLooked mid new → SameFile Output old new
looked_output old mid new tells so_far looked = stays_twice Output old mid new so_far (record {
  seen = ap (file_of Output) (looked.seen tells);
  only = λ c left. (c, (looked.crash tells c).0 left, refl);
  still = λ c left. (c, (looked.crash tells c).1 left, refl);
})

-- nothing was done
pub same_output : (v : View) → SameFile Output v v
same_output v = record { seen = refl; only = λ c left. (c, left, refl); still = λ c left. (c, left, refl) }

-- a change of the other image file
pub beside_output : {T E : Type 0} (chain : Current) (f : DiskFile) (change : Change) (result : Result T E) (old new : View) → f ≡ other chain.file → IsTrue old.tells → Changes f change result old new → SameFile Output old new
beside_output chain f change result old new file tells call = others_stay f Output change result old new (λ e. other_image chain.file (sym file ∙ e)) tells call
