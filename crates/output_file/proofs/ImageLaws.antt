-- The calls of an output leave the files of images as they were.
use Rattle.std.proofs.Common.{◌≡◌, ◌≢◌, subst, sym, IsTrue, Result}
use Rattle.disk_model.specs.declared.disk_file.DiskFile.TheVariants.{Output, One, Two}
use Rattle.disk_model.specs.Change.{Change}
use Rattle.disk_model.specs.View.{View, Changes, SameFile}
use Rattle.disk_model.proofs.Calls.{others_stay, stays_twice}

one_aside : Output ≢ One
one_aside e = cc

two_aside : Output ≢ Two
two_aside e = cc

-- a change of the output
pub images_stay : {T E : Type 0} (change : Change) (result : Result T E) (old new : View) → IsTrue old.tells → Changes Output change result old new → SameFile One old new × SameFile Two old new
images_stay change result old new tells call = (others_stay Output One change result old new one_aside tells call, others_stay Output Two change result old new two_aside tells call)

-- one run after another
pub images_twice : (a b c : View) → SameFile One a b × SameFile Two a b → SameFile One b c × SameFile Two b c → SameFile One a c × SameFile Two a c
images_twice a b c first second = (stays_twice One a b c first.0 second.0, stays_twice Two a b c first.1 second.1)

-- a change after another run
pub then_images_stay : {T E : Type 0} (change : Change) (result : Result T E) (old mid new : View) → mid.tells ≡ old.tells → IsTrue old.tells → SameFile One old mid × SameFile Two old mid → Changes Output change result mid new → SameFile One old new × SameFile Two old new
then_images_stay change result old mid new same tells so_far call = images_twice old mid new so_far (images_stay change result mid new (subst IsTrue (sym same) tells) call)
