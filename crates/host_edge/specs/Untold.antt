-- What the real shelf, sink and disk tell: how often they have failed, and no content.
use Rattle.std.specs.Prelude.{◌≡◌, ℕ, [], Bool, true, false, IsTrue}
use Rattle.ckpt_base.specs.Shelf.{ShelfView}
use Rattle.ckpt_base.specs.Sink.{SinkView}
use Rattle.disk_model.specs.View.{View, IsDisk}

abbrev pub untold_shelf : Bool → ℕ → ShelfView
untold_shelf is_open faults = record { tells = false; files = []; is_open = is_open; rest = []; faults = faults }

abbrev pub untold_sink : ℕ → SinkView
untold_sink faults = record { tells = false; written = []; faults = faults }

abbrev pub untold_disk : ℕ → View
untold_disk faults = record { tells = false; tells_past = false; seen = record { output = []; one = []; two = [] }; may_leave = λ _. ⊥; moment = 0; left_since = λ _ _. ⊥; faults = faults }

-- One that tells nothing keeps each law of those that tell.
pub untold_is_disk : (faults : ℕ) → IsTrue false → IsDisk (untold_disk faults)
untold_is_disk faults tells = let wrong : false ≡ true = tells in absurd (cc wrong)
