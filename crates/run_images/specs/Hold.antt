-- What records hold of a memory of the source's program.
use Rattle.std.specs.Prelude.{◌≡◌, ℕ, ◌<◌, true, false, List, [], ◌∷◌, ◌++◌, Some, None, slice_index}
use Rattle.ckpt_base.specs.Event.{Event, Checkpoint}
use Rattle.c_tree.specs.Layout.{cell_count}
use Rattle.path_laws.specs.Forgettable.{IsForgettable}
use Rattle.image_format.specs.declared.fields.Fields.{Fields}
use Rattle.image_format.specs.Image.{Image, word_in_runs}
use Rattle.image_chain.specs.Memory.{memory}
use Rattle.image_chain.specs.Records.{newest_of}
use Rattle.run_images.specs.Since.{Since, at_first, is_due, is_fresh, since_after}
use Rattle.run_images.specs.Images.{taken_at, images}
use Rattle.run_images.specs.JoinedList.{lists_cell, IsOf, IsJoinedList}
use Rattle.run_images.specs.Source.{Source, run_of, taking_of}

-- The records give each cell its word in this memory, but for what is forgettable at a node. So they give the same memory over every fill.
abbrev pub HoldWords : Source → ℕ → List Image → List ℕ → Type 0
HoldWords s node rs m = (c : ℕ) → c < cell_count s.program → (IsForgettable s.graph c node → ⊥) → memory rs c ≡ Some (slice_index m c)

-- Between two images: the records give each cell that was not written since the newest image its word in this memory, but for what is forgettable at the node of that image.
abbrev pub HoldUnwritten : Source → Since → List Image → List ℕ → Type 0
HoldUnwritten s now rs m = (f : Fields) (c : ℕ) → newest_of None rs ≡ Some f → c < cell_count s.program → is_fresh now c ≡ false → (IsForgettable s.graph c f.node → ⊥) → memory rs c ≡ Some (slice_index m c)

-- The source's run takes an image at a checkpoint, behind these events and t ticks: the record is that image with its words of this memory, and the records before it
-- are those of the images before, and hold the memory as long as nothing is written.
pub record IsTakenAt (s : Source) (every node t : ℕ) (es : List Event) (rs : List Image) (r : Image) (m : List ℕ) : Type 0 where
  pub passes : (run_of s t).events ≡ es ++ Checkpoint node t ∷ []
  pub due : is_due every (since_after every es at_first) t ≡ true
  pub joined : IsJoinedList rs (images (taking_of s every) es)
  pub image : IsOf r (taken_at (taking_of s every) node t (since_after every es at_first))
  pub words : (c : ℕ) → lists_cell r c ≡ true → word_in_runs r.runs c ≡ Some (slice_index m c)
  pub held : HoldUnwritten s (since_after every es at_first) rs m
