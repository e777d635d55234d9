-- An outcome whose current file lists records that stand, beside the other file as it was.
use Rattle.std.proofs.Common.{◌≡◌, ◌≢◌, refl, sym, ◌∙◌, ap, subst, ℕ, ◌<◌, ◌≤◌, inl, inr, ◌⊎◌, ⊎_elim, List, [], ◌∷◌, length, take, Option, Some, None, arith}
use Rattle.std.proofs.lemmas.List.{take-take}
use Rattle.disk_model.specs.declared.disk_file.DiskFile.{DiskFile}
use Rattle.disk_model.specs.declared.disk_file.DiskFile.TheVariants.{Output, One, Two}
use Rattle.disk_model.specs.Store.{Store, file_of}
use Rattle.image_format.specs.declared.header.Header.{Header}
use Rattle.image_format.specs.declared.fields.Fields.{Fields}
use Rattle.image_format.specs.Image.{Image}
use Rattle.image_chain.specs.Append.{other}
use Rattle.image_chain.specs.Records.{newest_of}
use Rattle.run_images.specs.Source.{Source, output_of}
use Rattle.run_images.specs.Stands.{StandsFor, StandsWithin, StandWith}
use Rattle.image_chain.specs.Files.{IsOpenIn, FileLists}
use Rattle.run_images.proofs.Outcomes.{IsListedIn, IsFoundIn, NoneAhead}
use Rattle.run_images.proofs.FoundLaws.{found_there, other_not, this_or_other, same_open, same_lists, chainless_stands}
use Rattle.run_images.proofs.OutputLaws.{open_same, lists_same, stands_on, front_length}

module _ (s : Source) (n : ℕ) (bytes : List ℕ) (f : DiskFile) (h : Header) (d c : Store) (within : StandsWithin s n d) (front : take n d.output ≡ take n bytes) (aside : (file_of (other f) c ≡ file_of (other f) d) ⊎ ((k : Header) → IsOpenIn (other f) k c → ⊥)) (output : c.output ≡ d.output) where
  -- where the other file is open, it is as it was
  aside_same : (k : Header) → IsOpenIn (other f) k c → file_of (other f) c ≡ file_of (other f) d
  aside_same k a = ⊎_elim (λ same. same) (λ closed. absurd (closed k a)) aside

  module _ (rs : List Image) (it : IsFoundIn c (record { file = f; header = h; records = rs })) (new : StandsFor s h.every rs (take n bytes)) (ahead : NoneAhead f rs d) where
    at_current : StandsFor s h.every rs c.output
    at_current =
        let same : take n c.output ≡ take n (take n bytes) = ap (take n) output ∙ front ∙ sym (take-take n n bytes (omega arith)) in
        stands_on s n h.every rs (take n bytes) c.output same new (front_length n (output_of s new.newest.steps) bytes new.begins)

    abbrev EachStands : DiskFile → Type 0
    EachStands g = (k : Header) → IsOpenIn g k c → (ps : List Image) × FileLists g k ps c × StandsFor s k.every ps c.output

    current_stands : EachStands f
    current_stands k a = (rs, subst (λ (m : Header). FileLists f m rs c) (same_open f h k c it.lists.open_in a) it.lists, subst (λ (m : Header). StandsFor s m.every rs c.output) (same_open f h k c it.lists.open_in a) at_current)

    aside_stands : EachStands (other f)
    aside_stands k a =
        let same = aside_same k a in
        let was = within.stands.each (other f) k (other_not f it.image_file) (open_same (other f) c d same k a) in
        (was.0, lists_same (other f) d c (sym same) k was.0 was.1, subst (λ (l : List ℕ). StandsFor s k.every was.0 l) (sym output) was.2)

    each_stands : (g : DiskFile) → g ≢ Output → EachStands g
    each_stands g ng = ⊎_elim (λ e. subst EachStands (sym e) current_stands) (λ e. subst EachStands (sym e) aside_stands) (this_or_other f g it.image_file ng)

    abbrev NotAhead : DiskFile → DiskFile → Type 0
    NotAhead a b = (k m : Header) (ps qs : List Image) (x y : Fields) → FileLists a k ps c → FileLists b m qs c → newest_of None ps ≡ Some x → newest_of None qs ≡ Some y → k.generation < m.generation → x.steps ≤ y.steps

    twice : (g : DiskFile) → NotAhead g g
    twice g k m ps qs x y u v p q less = absurd (omega (arith, less, ap (λ (z : Header). z.generation) (same_lists g k m ps qs c u v).0))

    here_first : NotAhead f (other f)
    here_first k m ps qs x y u v p q less =
        absurd (omega (arith, less, it.aside m v.open_in, ap (λ (z : Header). z.generation) (same_lists f k h ps rs c u it.lists).0))

    aside_first : NotAhead (other f) f
    aside_first k m ps qs x y u v p q less =
        let same = same_lists f m h qs rs c v it.lists in
        ahead k ps y x (lists_same (other f) c d (aside_same k u.open_in) k ps u) p (ap (newest_of None) (sym same.1) ∙ q)

    not_ahead : (a b : DiskFile) → a ≢ Output → b ≢ Output → NotAhead a b
    not_ahead a b na nb = ⊎_elim
        (λ e. subst (λ z. NotAhead z b) (sym e) (⊎_elim (λ i. subst (NotAhead f) (sym i) (twice f)) (λ i. subst (NotAhead f) (sym i) here_first) (this_or_other f b it.image_file nb)))
        (λ e. subst (λ z. NotAhead z b) (sym e) (⊎_elim (λ i. subst (NotAhead (other f)) (sym i) aside_first) (λ i. subst (NotAhead (other f)) (sym i) (twice (other f))) (this_or_other f b it.image_file nb)))
        (this_or_other f a it.image_file na)

    abbrev IsWithin : DiskFile → Type 0
    IsWithin g = (k : Header) (ps : List Image) (x : Fields) → FileLists g k ps c → newest_of None ps ≡ Some x → length (output_of s x.steps) ≤ n

    current_within : IsWithin f
    current_within k ps x u p =
        let same = same_lists f k h ps rs c u it.lists in
        let is : x ≡ new.newest = field_is (newest_of None rs) x new.newest (ap (newest_of None) (sym same.1) ∙ p) new.newest_is in
        subst (λ (z : Fields). length (output_of s z.steps) ≤ n) (sym is) (front_length n (output_of s new.newest.steps) bytes new.begins)
      where
        field_is : (o : Option Fields) (a b : Fields) → o ≡ Some a → o ≡ Some b → a ≡ b
        field_is o a b e i = cc

    aside_within : IsWithin (other f)
    aside_within k ps x u p = within.within (other f) k ps x (other_not f it.image_file) (lists_same (other f) c d (aside_same k u.open_in) k ps u) p

    each_within : (g : DiskFile) → g ≢ Output → IsWithin g
    each_within g ng = ⊎_elim (λ e. subst IsWithin (sym e) current_within) (λ e. subst IsWithin (sym e) aside_within) (this_or_other f g it.image_file ng)

    abbrev Differ : DiskFile → Type 0
    Differ g = (k m : Header) → IsOpenIn g k c → IsOpenIn (other g) m c → k.generation ≢ m.generation

    differ_current : Differ f
    differ_current k m u v e = absurd (omega (arith, it.aside m v, ap (λ (z : Header). z.generation) (same_open f k h c u it.lists.open_in), e))

    differ_by : (g : DiskFile) → f ≡ g → (k m : Header) → IsOpenIn One k c → IsOpenIn Two m c → k.generation ≢ m.generation
    differ_by Output e k m u v = absurd (it.image_file e)
    differ_by One e k m u v = subst Differ e differ_current k m u v
    differ_by Two e k m u v = λ i. subst Differ e differ_current m k v u (sym i)

    some_stand : StandsWithin s n c
    some_stand = record {
      stands = record {
        headers = it.headers;
        differ = differ_by f refl;
        each = λ g k ng. each_stands g ng k;
        order = λ a b k m ps qs x y na nb. not_ahead a b na nb k m ps qs x y;
      };
      within = λ g k ps x ng. each_within g ng k ps x;
    }

pub listed_stand : (s : Source) (n : ℕ) (bytes : List ℕ) (f : DiskFile) (h : Header) (rs : List Image) (d c : Store) → StandsWithin s n d → take n d.output ≡ take n bytes
    → StandWith s h.every n bytes rs → NoneAhead f rs d → IsListedIn f h rs d c → StandsWithin s n c
listed_stand s n bytes f h [] d c within front from ahead is = chainless_stands s n c is.lists
listed_stand s n bytes f h (r ∷ rs) d c within front from ahead is =
    some_stand s n bytes f h d c within front is.aside is.output (r ∷ rs) (found_there c (record { file = f; header = h; records = r ∷ rs }) is.lists) (by_from from) ahead
  where
    by_from : StandWith s h.every n bytes (r ∷ rs) → StandsFor s h.every (r ∷ rs) (take n bytes)
    by_from (inl e) = absurd (let z : r ∷ rs ≡ [] = e in cc)
    by_from (inr a) = a
