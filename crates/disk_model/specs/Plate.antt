-- What is told of a disk now, apart from crashes. A look leaves it as it was.
use Rattle.std.specs.Prelude.{ℕ, Bool, true, false, Option, Some, None}
use Rattle.disk_model.specs.Store.{Store}
use Rattle.disk_model.specs.View.{View}

-- the files as reads give them, where they are told, and how often the disk has failed
pub record Plate : Type 0 where
  pub seen : Option Store
  pub faults : ℕ

abbrev pub told : Bool → Store → Option Store
told true s = Some s
told false s = None

abbrev pub plate : View → Plate
plate v = record { seen = told v.tells v.seen; faults = v.faults }
