-- What calls keep of a store that stands for a source.
use Rattle.std.specs.Prelude.{IsTrue}
use Rattle.disk_model.specs.View.{View}
use Rattle.disk_model.specs.Moments.{LeavesOnly}
use Rattle.run_images.specs.Source.{Source, IsSource}
use Rattle.run_images.specs.Stands.{Stands, AllStand}

-- For each source for which the store stands, every crash at each moment leaves one that stands for it.
abbrev pub StaysStanding : View → View → Type 0
StaysStanding old new = IsTrue old.tells → (s : Source) → IsSource s → AllStand s old → LeavesOnly old new (Stands s)
