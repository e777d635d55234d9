-- An append leaves a store that stands.
use Rattle.std.proofs.Common.{◌≡◌, ◌≢◌, refl, sym, ◌∙◌, ap, ℕ, ◌+◌, ◌<◌, ◌≤◌, ◌==◌, not, nat_le, nat_lt, Bool, true, false, cond, inl, inr, ◌⊎◌, List, [], ◌∷◌, ◌++◌, take, Option, Some, None, Ok, arith}
use Rattle.std.specs.Str.{bytes_eq}
use Rattle.std.proofs.lemmas.Bool.Decides.{nat_tests}
use Rattle.disk_model.specs.declared.disk_file.DiskFile.{DiskFile}
use Rattle.disk_model.specs.declared.disk_file.DiskFile.TheVariants.{Output}
use Rattle.disk_model.specs.Store.{Store}
use Rattle.image_format.specs.declared.fields.Fields.{Fields}
use Rattle.image_format.specs.declared.header.Header.{Header}
use Rattle.image_format.specs.Image.{Image}
use Rattle.image_chain.specs.Append.{other}
use Rattle.image_chain.specs.Lists.{found_of}
use Rattle.image_chain.specs.Records.{broken_field, newest_of, chain_in}
use Rattle.run_images.specs.Source.{Source}
use Rattle.run_images.specs.Stands.{StandsWithin, StandWith}
use Rattle.run_images.proofs.Outcomes.{IsListedIn, NoneAhead}
use Rattle.run_images.proofs.FoundLaws.{found_there, parts_of, none_open_in, other_not}
use Rattle.run_images.proofs.ListedLaws.{listed_stand}

none_some : (x : Fields) → None ≡ Some x → ⊥
none_some x e = cc

some_none : (n : ℕ) → Some n ≡ None → ⊥
some_none n e = cc

some_is : (x y : Fields) → Some x ≡ Some y → x ≡ y
some_is x y e = cc

-- a test that tells no place has failed
none_told : (b : Bool) (place : ℕ) (rest : Option ℕ) → cond b (Some place) rest ≡ None → (b ≡ false) × (rest ≡ None)
none_told true place rest e = absurd (some_none place e)
none_told false place rest e = (refl, e)

-- the steps of a record that follows rise, and so does its number
module _ (old new : Fields) where
  abbrev in_number : Option ℕ
  in_number = cond (not (new.number == old.number + 1)) (Some 100) None

  abbrev in_output : Option ℕ
  in_output = cond (nat_lt new.output_length old.output_length) (Some 89) in_number

  abbrev in_place : Option ℕ
  in_place = cond (nat_lt new.input_place old.input_place) (Some 81) in_output

  abbrev in_steps : Option ℕ
  in_steps = cond (nat_le new.steps old.steps) (Some 73) in_place

  abbrev in_input : Option ℕ
  in_input = cond (not (bytes_eq new.marks.input old.marks.input)) (Some 37) in_steps

  pub rises : broken_field (Some old) new ≡ None → (old.steps < new.steps) × (old.number ≤ new.number)
  rises e =
      let input = none_told (not (bytes_eq new.marks.source old.marks.source)) 5 in_input e in
      let steps = none_told (not (bytes_eq new.marks.input old.marks.input)) 37 in_steps input.1 in
      let place = none_told (nat_le new.steps old.steps) 73 in_place steps.1 in
      let written = none_told (nat_lt new.input_place old.input_place) 81 in_output place.1 in
      let number = none_told (nat_lt new.output_length old.output_length) 89 in_number written.1 in
      let last = none_told (not (new.number == old.number + 1)) 100 None number.1 in
      (grind (arith, nat_tests, place.0), grind (arith, nat_tests, last.0))

pub newest_more : (o : Option Fields) (rs : List Image) (r : Image) → newest_of o (rs ++ r ∷ []) ≡ Some r.fields
newest_more o [] r = refl
newest_more o (q ∷ rs) r = newest_more (Some q.fields) rs r

pub newest_some : (f : Fields) (rs : List Image) → (x : Fields) × (newest_of (Some f) rs ≡ Some x)
newest_some f [] = (f, refl)
newest_some f (r ∷ rs) = newest_some r.fields rs

pub none_ahead : (s : Source) (n : ℕ) (f : DiskFile) (h : Header) (rs : List Image) (d : Store) → StandsWithin s n d → chain_in d ≡ Ok (found_of f h rs) → NoneAhead f rs d
none_ahead s n f h [] d within is k ps x y u p q = absurd (none_some x q)
none_ahead s n f h (r ∷ rs) d within is k ps x y u p q =
    let it = found_there d (record { file = f; header = h; records = r ∷ rs }) is in
    within.stands.order (other f) f k h ps (r ∷ rs) y x (other_not f it.image_file) it.image_file u it.lists p q (it.aside k u.open_in)

none_ahead_more : (s : Source) (n : ℕ) (f : DiskFile) (h : Header) (rs : List Image) (r : Image) (d : Store) → f ≢ Output → StandsWithin s n d → chain_in d ≡ Ok (found_of f h rs) → broken_field (newest_of None rs) r.fields ≡ None → NoneAhead f (rs ++ r ∷ []) d
none_ahead_more s n f h [] r d image_file within is follows k ps x y u p q = absurd (none_open_in d (other f) k (other_not f image_file) (parts_of d None is) u.open_in)
none_ahead_more s n f h (a ∷ rs) r d image_file within is follows k ps x y u p q =
    let z = newest_some a.fields rs in
    let x_is : r.fields ≡ x = some_is r.fields x (sym (newest_more None (a ∷ rs) r) ∙ q) in
    let before : y.steps ≤ z.0.steps = none_ahead s n f h (a ∷ rs) d within is k ps z.0 y u p z.1 in
    let rise = (rises z.0 r.fields (sym (ap (λ (o : Option Fields). broken_field o r.fields) z.1) ∙ follows)).0 in
    omega (arith, before, rise, ap (λ (g : Fields). g.steps) x_is)

pub append_stands : (s : Source) (n : ℕ) (bytes : List ℕ) (f : DiskFile) (h : Header) (rs : List Image) (r : Image) (d c : Store) → f ≢ Output → StandsWithin s n d → take n d.output ≡ take n bytes → chain_in d ≡ Ok (found_of f h rs)
    → broken_field (newest_of None rs) r.fields ≡ None → StandWith s h.every n bytes rs → StandWith s h.every n bytes (rs ++ r ∷ []) → IsListedIn f h rs d c ⊎ IsListedIn f h (rs ++ r ∷ []) d c → StandsWithin s n c
append_stands s n bytes f h rs r d c image_file within front is follows old new (inl a) = listed_stand s n bytes f h rs d c within front old (none_ahead s n f h rs d within is) a
append_stands s n bytes f h rs r d c image_file within front is follows old new (inr a) = listed_stand s n bytes f h (rs ++ r ∷ []) d c within front new (none_ahead_more s n f h rs r d image_file within is follows) a
