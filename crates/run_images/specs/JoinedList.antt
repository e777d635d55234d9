-- Records that stand for images: the first may stand for several, each other one for one.
use Rattle.std.specs.Prelude.{◌≡◌, ℕ, Bool, is_some, List, [], ◌∷◌, ◌++◌}
use Rattle.std.specs.List.{list_any}
use Rattle.image_format.specs.Image.{Image, word_in_runs}
use Rattle.run_images.specs.Images.{TakenImage}

-- whether a record lists the cell
abbrev pub lists_cell : Image → ℕ → Bool
lists_cell r c = is_some (word_in_runs r.runs c)

-- the record says what the image says, and lists exactly its cells
pub record IsOf (r : Image) (i : TakenImage) : Type 0 where
  pub fields : r.fields ≡ i.fields
  pub lists : (c : ℕ) → lists_cell r c ≡ i.lists c

-- so does each of these records with its image
abbrev pub AreOf : List Image → List TakenImage → Type 0
AreOf [] [] = Unit {0}
AreOf [] (i ∷ is) = ⊥
AreOf (r ∷ rs) [] = ⊥
AreOf (r ∷ rs) (i ∷ is) = IsOf r i × AreOf rs is

-- The first record says what the last of some first images says, and lists what any of them lists; each other record is of one later image.
pub record AreJoined (r : Image) (rs : List Image) (images : List TakenImage) : Type 0 where
  pub front : List TakenImage
  pub image : TakenImage
  pub back : List TakenImage
  pub split : images ≡ (front ++ image ∷ []) ++ back
  pub fields : r.fields ≡ image.fields
  pub lists : (c : ℕ) → lists_cell r c ≡ list_any (λ i. i.lists c) (front ++ image ∷ [])
  pub others : AreOf rs back

-- the records stand for exactly these images
abbrev pub IsJoinedList : List Image → List TakenImage → Type 0
IsJoinedList [] images = images ≡ []
IsJoinedList (r ∷ rs) images = AreJoined r rs images
