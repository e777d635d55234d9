-- Records that may have been joined into one.
use Rattle.std.specs.Prelude.{◌≡◌, ◌⊎◌, List, [], ◌∷◌}
use Rattle.disk_model.specs.Store.{Store}
use Rattle.image_format.specs.Image.{Image}
use Rattle.image_chain.specs.declared.chain.Current.{Current}
use Rattle.image_chain.specs.Replace.{IsReplaced}
use Rattle.coalesce.specs.Join.{Joins}

-- the records are as they were, or one record joins them
abbrev pub StayOrJoin : List Image → List Image → Type 0
StayOrJoin rs qs = (qs ≡ rs) ⊎ ((r : Image) × Joins rs r × (qs ≡ r ∷ []))

-- an earlier outcome, or one in which the records were replaced by one that joins them, or are being so
abbrev pub MayBeJoined : Current → List Image → Store → Store → Type 0
MayBeJoined chain rs old new = (new ≡ old) ⊎ ((r : Image) × Joins rs r × IsReplaced chain rs r old new)
