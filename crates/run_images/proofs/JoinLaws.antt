-- Joined lists grow, and join.
use Rattle.std.proofs.Common.{◌≡◌, refl, sym, ◌∙◌, ap, subst, ℕ, ◌||◌, Bool, true, false, List, [], ◌∷◌, ◌++◌, Option, Some, None, append_assoc, append-nil}
use Rattle.std.specs.Prelude.{is_some}
use Rattle.std.specs.Option.{option_or}
use Rattle.std.specs.List.{list_any}
use Rattle.image_format.specs.declared.fields.Fields.{Fields}
use Rattle.image_format.specs.Image.{Image, word_in_runs}
use Rattle.image_chain.specs.Records.{newest_of}
use Rattle.image_chain.specs.Memory.{memory}
use Rattle.coalesce.specs.Join.{Joins}
use Rattle.run_images.specs.Images.{TakenImage}
use Rattle.run_images.specs.JoinedList.{IsOf, AreOf, AreJoined, IsJoinedList}

of_more : (rs : List Image) (is : List TakenImage) (r : Image) (i : TakenImage) → AreOf rs is → IsOf r i → AreOf (rs ++ r ∷ []) (is ++ i ∷ [])
of_more [] [] r i all one = (one, tt)
of_more [] (j ∷ is) r i all one = absurd all
of_more (q ∷ rs) [] r i all one = absurd all
of_more (q ∷ rs) (j ∷ is) r i all one = (all.0, of_more rs is r i all.1 one)

or_false : (b : Bool) → b ≡ b || false
or_false true = refl
or_false false = refl

pub joined_grow : (rs : List Image) (r : Image) (is : List TakenImage) (i : TakenImage) → IsJoinedList rs is → IsOf r i → IsJoinedList (rs ++ r ∷ []) (is ++ i ∷ [])
joined_grow [] r is i none one = record { front = []; image = i; back = []; split = ap (λ (js : List TakenImage). js ++ i ∷ []) none; fields = one.fields; lists = λ c. one.lists c ∙ or_false (i.lists c); others = tt }
joined_grow (q ∷ rs) r is i all one = record {
  front = all.front;
  image = all.image;
  back = all.back ++ i ∷ [];
  split = ap (λ (js : List TakenImage). js ++ i ∷ []) all.split ∙ append_assoc (all.front ++ all.image ∷ []) all.back (i ∷ []);
  fields = all.fields;
  lists = all.lists;
  others = of_more rs all.back r i all.others one;
}

some_or : (a b : Option ℕ) → is_some (option_or a b) ≡ is_some b || is_some a
some_or (Some w) (Some v) = refl
some_or (Some w) None = refl
some_or None (Some v) = refl
some_or None None = refl

any_append : (f : TakenImage → Bool) (xs ys : List TakenImage) → list_any f (xs ++ ys) ≡ list_any f xs || list_any f ys
any_append f [] ys = refl
any_append f (x ∷ xs) ys = ap (λ (b : Bool). f x || b) (any_append f xs ys) ∙ or_assoc (f x) (list_any f xs) (list_any f ys)
  where
    or_assoc : (a b d : Bool) → a || (b || d) ≡ (a || b) || d
    or_assoc true b d = refl
    or_assoc false b d = refl

of_lists : (rs : List Image) (is : List TakenImage) (c : ℕ) → AreOf rs is → is_some (memory rs c) ≡ list_any (λ i. i.lists c) is
of_lists [] [] c all = refl
of_lists (r ∷ rs) (i ∷ is) c all = some_or (memory rs c) (word_in_runs r.runs c) ∙ ap (λ (b : Bool). b || is_some (memory rs c)) (all.0.lists c) ∙ ap (λ (b : Bool). i.lists c || b) (of_lists rs is c all.1)
of_lists [] (i ∷ is) c all = absurd all
of_lists (r ∷ rs) [] c all = absurd all

-- the cells that joined records list are those of all their images
pub joined_lists_all : (r : Image) (rs : List Image) (is : List TakenImage) (c : ℕ) → AreJoined r rs is → is_some (memory (r ∷ rs) c) ≡ list_any (λ i. i.lists c) is
joined_lists_all r rs is c all =
    some_or (memory rs c) (word_in_runs r.runs c) ∙ ap (λ (b : Bool). b || is_some (memory rs c)) (all.lists c)
    ∙ ap (λ (b : Bool). list_any (λ i. i.lists c) (all.front ++ all.image ∷ []) || b) (of_lists rs all.back c all.others)
    ∙ sym (any_append (λ i. i.lists c) (all.front ++ all.image ∷ []) all.back) ∙ ap (λ (js : List TakenImage). list_any (λ i. i.lists c) js) (sym all.split)

-- the last image of a joined list, which the newest record is of
pub record Newest (f : Option Fields) (is : List TakenImage) : Type 0 where
  pub front : List TakenImage
  pub image : TakenImage
  pub split : is ≡ front ++ image ∷ []
  pub fields : f ≡ Some image.fields

newest_back : (rs : List Image) (before : List TakenImage) (image : TakenImage) (f : Fields) (is : List TakenImage) → f ≡ image.fields → AreOf rs is → Newest (newest_of (Some f) rs) ((before ++ image ∷ []) ++ is)
newest_back [] before image f [] e all = record { front = before; image = image; split = append-nil (before ++ image ∷ []); fields = ap (λ (g : Fields). Some g) e }
newest_back [] before image f (i ∷ is) e all = absurd all
newest_back (r ∷ rs) before image f [] e all = absurd all
newest_back (r ∷ rs) before image f (i ∷ is) e all =
    subst (λ (js : List TakenImage). Newest (newest_of (Some r.fields) rs) js) (append_assoc (before ++ image ∷ []) (i ∷ []) is) (newest_back rs (before ++ image ∷ []) i r.fields is all.0.fields all.1)

pub joined_newest : (r : Image) (rs : List Image) (is : List TakenImage) → AreJoined r rs is → Newest (newest_of None (r ∷ rs)) is
joined_newest r rs is all = subst (λ (js : List TakenImage). Newest (newest_of (Some r.fields) rs) js) (sym all.split) (newest_back rs all.front all.image r.fields all.back all.fields all.others)

same_some : {X : Type 0} {a b : X} → Some a ≡ Some b → a ≡ b
same_some e = cc

none_some : {X : Type 0} {a : X} → None ≡ Some a → ⊥
none_some e = cc

pub joined_joins : (rs : List Image) (r : Image) (is : List TakenImage) → IsJoinedList rs is → Joins rs r → IsJoinedList (r ∷ []) is
joined_joins [] r is all j = absurd (none_some j.fields)
joined_joins (q ∷ rs) r is all j =
    let last = joined_newest q rs is all in
    record {
      front = last.front;
      image = last.image;
      back = [];
      split = last.split ∙ sym (append-nil (last.front ++ last.image ∷ []));
      fields = same_some (sym j.fields ∙ last.fields);
      lists = λ c. ap is_some (j.words c) ∙ joined_lists_all q rs is c all ∙ ap (λ (js : List TakenImage). list_any (λ i. i.lists c) js) last.split;
      others = tt;
    }
