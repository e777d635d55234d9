-- What a life keeps on its disk: its chain, with the record that is under way, and its output.
use Rattle.std.specs.Prelude.{◌≡◌, ℕ, false, List, [], ◌∷◌, ◌++◌, length}
use Rattle.ckpt_base.specs.Event.{Event}
use Rattle.ckpt_base.specs.Run.{output}
use Rattle.dirty_pages.specs.Pages.{PageStates, in_snapshot}
use Rattle.disk_model.specs.View.{View}
use Rattle.image_format.specs.Image.{Image, IsImage}
use Rattle.image_chain.specs.Append.{IsDue, Spells, step_after}
use Rattle.image_chain.specs.Lists.{Rests}
use Rattle.coalesce.specs.Join.{IsContent}
use Rattle.output_file.specs.OnDisk.{IsOutputOn}
use Rattle.run_images.specs.Images.{TakenImage, images_from}
use Rattle.run_images.specs.JoinedList.{IsJoinedList}
use Rattle.run_images.specs.Origin.{Origin}
use Rattle.ckpt_runner.specs.LifeView.{LifeView, Writer, Idle, Waiting, Writing}

-- all bytes that the run has written from the file's front on
abbrev pub bytes_now : Origin → List Event → List ℕ
bytes_now o es = o.output ++ output es

-- the images that the life has taken
abbrev pub images_now : Origin → List Event → List TakenImage
images_now o es = images_from o.taking es o.since

-- no page is in the snapshot
abbrev pub NoneSnapped : PageStates → Type 0
NoneSnapped pages = (p : ℕ) → in_snapshot pages p ≡ false

-- `old` is the list of records on the disk, and `new` the one with the record under way; at rest they are the same
abbrev pub WriterStands : LifeView → View → List Image → List Image → Writer → Type 0
WriterStands life v old new Idle = (new ≡ old) × Rests life.journal.chain v old × NoneSnapped life.pages
WriterStands life v old new (Waiting f) = Rests life.journal.chain v old × ((r : Image) × (new ≡ old ++ r ∷ []) × (r.fields ≡ f) × IsImage r)
WriterStands life v old new (Writing bytes done) =
    ((r : Image) × (new ≡ old ++ r ∷ []) × Spells r bytes) × IsDue life.journal.chain.current v old bytes (step_after done (length bytes))
    × (life.journal.chain.due ≡ step_after done (length bytes)) × NoneSnapped life.pages

-- where the disk tells: the chain, the output and the images
pub record Keeps (o : Origin) (es : List Event) (life : LifeView) (v : View) (old new : List Image) : Type 0 where
  pub writer : WriterStands life v old new life.writer
  -- what is kept joined is the content of the records on the disk
  pub content : IsContent life.journal.kept old
  pub output : IsOutputOn life.journal.output v (bytes_now o es)
  -- the records are those of the images before the life and of those that it took
  pub images : (before : List TakenImage) → IsJoinedList o.records before → IsJoinedList new (before ++ images_now o es)

-- the disk holds what the life has kept on it: it fits the life
pub record Kept (o : Origin) (es : List Event) (life : LifeView) (v : View) : Type 0 where
  pub old : List Image
  pub new : List Image
  pub keeps : Keeps o es life v old new
