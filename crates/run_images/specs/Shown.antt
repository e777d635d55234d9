-- What a life has shown of its source's run, and the images that it takes.
use Rattle.std.specs.Prelude.{◌≡◌, ℕ, true, List, [], ◌∷◌, ◌++◌, Some, slice_index}
use Rattle.ckpt_base.specs.Event.{Event, Checkpoint}
use Rattle.ckpt_base.specs.Run.{Run, output}
use Rattle.image_format.specs.Image.{Image, word_in_runs}
use Rattle.machine_code.specs.Run.{World, Reaches}
use Rattle.run_images.specs.Since.{at_first, is_due, since_after}
use Rattle.run_images.specs.Images.{taken_at, images_from}
use Rattle.run_images.specs.JoinedList.{lists_cell, IsOf, IsJoinedList}
use Rattle.run_images.specs.Source.{Source, run_of, output_of, images_of}
use Rattle.run_images.specs.Hold.{HoldUnwritten}
use Rattle.run_images.specs.Stands.{StandsFor}
use Rattle.run_images.specs.Origin.{Origin, origin_world, events_before}

-- The events that a life has shown are those of the source's run from the origin on up to t ticks; and so are its output, its images, and what is left for the next image.
pub record HasShown (s : Source) (o : Origin) (es : List Event) (t : ℕ) : Type 0 where
  pub events : (run_of s t).events ≡ events_before s o ++ es
  pub since : since_after o.taking.every (run_of s t).events at_first ≡ since_after o.taking.every es o.since
  pub output : output_of s t ≡ o.output ++ output es
  pub images : images_of s o.taking.every t ≡ images_of s o.taking.every o.state.ticks ++ images_from o.taking es o.since

-- A run from the origin is the source's run with a bound of t ticks: the same ending and ticks, and what it has shown is what that has.
pub record EndsAsSource (s : Source) (o : Origin) (t : ℕ) (r : Run) : Type 0 where
  pub shown : HasShown s o r.events t
  pub ending : (run_of s t).ending ≡ r.ending
  pub ticks : (run_of s t).ticks ≡ r.ticks

-- A life takes an image at a checkpoint, behind these events: the record is that image with its words of the life's memory, and the records before it are those of the
-- images before, and hold the memory as long as nothing is written.
pub record TakesImage (s : Source) (o : Origin) (es : List Event) (node : ℕ) (w : World) (rs : List Image) (r : Image) : Type 0 where
  pub reaches : Reaches o.code (origin_world o (events_before s o)) w
  pub passes : w.events ≡ events_before s o ++ (es ++ Checkpoint node w.state.ticks ∷ [])
  pub due : is_due o.taking.every (since_after o.taking.every es o.since) w.state.ticks ≡ true
  pub records : IsJoinedList rs (images_of s o.taking.every o.state.ticks ++ images_from o.taking es o.since)
  pub image : IsOf r (taken_at o.taking node w.state.ticks (since_after o.taking.every es o.since))
  pub words : (c : ℕ) → lists_cell r c ≡ true → word_in_runs r.runs c ≡ Some (slice_index w.memory c)
  pub held : HoldUnwritten s (since_after o.taking.every es o.since) rs w.memory

-- Behind it the records, the new one among them, stand for the source with the bytes written so far, and hold the memory until something is written.
pub record HasTaken (s : Source) (o : Origin) (es : List Event) (node : ℕ) (w : World) (rs : List Image) : Type 0 where
  pub shown : HasShown s o (es ++ Checkpoint node w.state.ticks ∷ []) w.state.ticks
  pub stand : StandsFor s o.taking.every rs (o.output ++ output es)
  pub held : HoldUnwritten s (since_after o.taking.every (es ++ Checkpoint node w.state.ticks ∷ []) o.since) rs w.memory
