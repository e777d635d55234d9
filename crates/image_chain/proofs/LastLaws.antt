-- The last of some records.
use Rattle.std.proofs.Common.{◌≡◌, refl, ap, List, [], ◌∷◌, ◌++◌, Option, Some, None}
use Rattle.image_format.specs.declared.fields.Fields.{Fields}
use Rattle.image_format.specs.Image.{Image}
use Rattle.image_chain.specs.Records.{newest_of}

fields_are : (f g : Fields) → Some f ≡ Some g → f ≡ g
fields_are f g e = cc

no_fields : (f : Fields) → None ≡ Some f → ⊥
no_fields f e = cc

behind : (n : Option Fields) (r : Image) (rs : List Image) (f : Fields) → newest_of n (r ∷ rs) ≡ Some f → (before : List Image) × (s : Image) × (r ∷ rs ≡ before ++ s ∷ []) × (s.fields ≡ f)
behind n r [] f e = ([], r, refl, fields_are r.fields f e)
behind n r (s ∷ rs) f e = (let m = behind (Some r.fields) s rs f e in (r ∷ m.0, m.1, ap (λ (l : List Image). r ∷ l) m.2, m.3))

pub last_of : (rs : List Image) (f : Fields) → newest_of None rs ≡ Some f → (before : List Image) × (r : Image) × (rs ≡ before ++ r ∷ []) × (r.fields ≡ f)
last_of [] f e = absurd (no_fields f e)
last_of (r ∷ rs) f e = behind None r rs f e
