-- Records list no cell that is not the program's.
use Rattle.std.proofs.Common.{◌≡◌, refl, ◌∙◌, ap, ℕ, ◌≤◌, ◌||◌, Bool, true, false, cond, nat_lt, List, [], ◌∷◌, ◌++◌, Option, Some, None, arith}
use Rattle.std.specs.Prelude.{is_some}
use Rattle.std.specs.List.{list_any}
use Rattle.std.proofs.lemmas.Bool.Decides.{nat_tests}
use Rattle.ckpt_base.specs.Event.{Event, Wrote, Byte, Took, Excluded, Checkpoint}
use Rattle.image_format.specs.Image.{Image}
use Rattle.image_chain.specs.Memory.{memory}
use Rattle.run_images.specs.Since.{Since, is_due, with_event}
use Rattle.run_images.specs.Images.{Taking, TakenImage, lists_at, taken_at, taken_with, images_from}
use Rattle.run_images.specs.JoinedList.{IsJoinedList}
use Rattle.run_images.proofs.JoinLaws.{joined_lists_all}

abbrev list_cell : ℕ → List TakenImage → Bool
list_cell c is = list_any (λ i. i.lists c) is

neither : (a b : Bool) → (a || b) ≡ false → (a ≡ false) × (b ≡ false)
neither true b e = absurd (let f : true ≡ false = e in cc)
neither false b e = (refl, e)

none_both : (c : ℕ) (xs ys : List TakenImage) → list_cell c xs ≡ false → list_cell c ys ≡ false → list_cell c (xs ++ ys) ≡ false
none_both c [] ys h k = k
none_both c (x ∷ xs) ys h k = let both = neither (x.lists c) (list_cell c xs) h in ap (λ b. b || list_cell c (xs ++ ys)) both.0 ∙ none_both c xs ys both.1 k

-- an image lists cells of the program alone
not_listed : (t : Taking) (s : Since) (c : ℕ) → t.cells ≤ c → lists_at t s c ≡ false
not_listed t s c le = let past : nat_lt c t.cells ≡ false = grind (arith, nat_tests) in rw past refl

none_with : (t : Taking) (e : Event) (s : Since) (c : ℕ) → t.cells ≤ c → list_cell c (taken_with t e s) ≡ false
none_with t (Wrote d) s c le = refl
none_with t (Byte b) s c le = refl
none_with t Took s c le = refl
none_with t (Excluded k) s c le = refl
none_with t (Checkpoint node tick) s c le = by_due (is_due t.every s tick)
  where
    by_due : (b : Bool) → list_cell c (cond b (taken_at t node tick s ∷ []) []) ≡ false
    by_due true = ap (λ b. b || false) (not_listed t s c le)
    by_due false = refl

pub none_from : (t : Taking) (es : List Event) (s : Since) (c : ℕ) → t.cells ≤ c → list_cell c (images_from t es s) ≡ false
none_from t [] s c le = refl
none_from t (e ∷ es) s c le = none_both c (taken_with t e s) (images_from t es (with_event t.every e s)) (none_with t e s c le) (none_from t es (with_event t.every e s) c le)

none_is : (o : Option ℕ) → is_some o ≡ false → o ≡ None
none_is None e = refl
none_is (Some w) e = absurd (let f : true ≡ false = e in cc)

-- what no image lists has no word
pub not_in_memory : (rs : List Image) (is : List TakenImage) (c : ℕ) → IsJoinedList rs is → list_cell c is ≡ false → memory rs c ≡ None
not_in_memory [] is c joined none = refl
not_in_memory (r ∷ rs) is c joined none = none_is (memory (r ∷ rs) c) (joined_lists_all r rs is c joined ∙ none)
