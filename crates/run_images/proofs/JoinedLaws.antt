-- An outcome whose other image file is current with the one record that joins the records.
use Rattle.std.proofs.Common.{◌≡◌, ◌≢◌, refl, sym, ◌∙◌, ap, subst, ℕ, ◌<◌, ◌≤◌, ⊎_elim, List, [], ◌∷◌, length, Option, Some, None, Ok, arith}
use Rattle.disk_model.specs.declared.disk_file.DiskFile.{DiskFile}
use Rattle.disk_model.specs.declared.disk_file.DiskFile.TheVariants.{Output, One, Two}
use Rattle.disk_model.specs.Store.{Store}
use Rattle.image_format.specs.declared.header.Header.{Header}
use Rattle.image_format.specs.declared.fields.Fields.{Fields}
use Rattle.image_format.specs.Image.{Image}
use Rattle.image_chain.specs.Append.{other}
use Rattle.image_chain.specs.Records.{Found, newest_of}
use Rattle.run_images.specs.Source.{Source, output_of, images_of}
use Rattle.image_chain.specs.Lists.{found_of}
use Rattle.coalesce.specs.Join.{Joins}
use Rattle.run_images.proofs.JoinLaws.{joined_joins}
use Rattle.run_images.specs.Stands.{StandsFor, StandsWithin}
use Rattle.image_chain.specs.Files.{IsOpenIn, FileLists}
use Rattle.run_images.proofs.Outcomes.{IsJoinedIn, IsFoundIn}
use Rattle.run_images.proofs.FoundLaws.{found_there, this_or_other, same_open, same_lists}
use Rattle.run_images.proofs.OutputLaws.{open_same, lists_same}

other_back : (f : DiskFile) → f ≢ Output → other (other f) ≡ f
other_back Output not = absurd (not refl)
other_back One not = refl
other_back Two not = refl

joined_stands : (s : Source) (every : ℕ) (rs : List Image) (r : Image) (file : List ℕ) → StandsFor s every rs file → Joins rs r → StandsFor s every (r ∷ []) file
joined_stands s every rs r file a j =
    let is : r.fields ≡ a.newest = field_is (newest_of None rs) r.fields a.newest j.fields a.newest_is in
    record {
      newest = a.newest;
      newest_is = ap (λ (x : Fields). Some x) is;
      joined = joined_joins rs r (images_of s every a.newest.steps) a.joined j;
      begins = a.begins;
      words = λ c lt kept. j.words c ∙ a.words c lt kept;
      spaced = a.spaced;
    }
  where
    field_is : (o : Option Fields) (a b : Fields) → o ≡ Some a → o ≡ Some b → a ≡ b
    field_is o a b e i = cc

some_of : (f : DiskFile) (h : Header) (rs : List Image) (x : Fields) → newest_of None rs ≡ Some x → found_of f h rs ≡ Some (record { file = f; header = h; records = rs })
some_of f h [] x e = absurd (none_field x e)
  where
    none_field : (x : Fields) → None ≡ Some x → ⊥
    none_field x e = cc
some_of f h (r ∷ rs) x e = refl

module _ (s : Source) (n : ℕ) (f : DiskFile) (h k : Header) (rs : List Image) (r : Image) (d c : Store) (within : StandsWithin s n d) (j : Joins rs r) (is : IsJoinedIn f h k rs r d c) where
  was : IsFoundIn d (record { file = f; header = h; records = rs })
  was = found_there d (record { file = f; header = h; records = rs }) (is.was ∙ ap (λ (o : Option Found). Ok o) (some_of f h rs r.fields j.fields))

  now : IsFoundIn c (record { file = other f; header = k; records = r ∷ [] })
  now = found_there c (record { file = other f; header = k; records = r ∷ [] }) is.lists

  -- the records before, as they stand
  before : StandsFor s h.every rs d.output
  before =
      let it = within.stands.each f h was.image_file was.lists.open_in in
      subst (λ (qs : List Image). StandsFor s h.every qs d.output) (same_lists f h h it.0 rs d it.1 was.lists).1 it.2

  front_within : length (output_of s r.fields.steps) ≤ n
  front_within = within.within f h rs r.fields was.image_file was.lists j.fields

  joined_now : StandsFor s k.every (r ∷ []) c.output
  joined_now = subst (λ e. StandsFor s e (r ∷ []) c.output) (sym is.every) (subst (λ (l : List ℕ). StandsFor s h.every (r ∷ []) l) (sym is.output) (joined_stands s h.every rs r d.output before j))

  -- the file that was current lists what it did
  old_lists : (m : Header) (ps : List Image) → FileLists f m ps c → (m ≡ h) × (ps ≡ rs)
  old_lists m ps u = same_lists f m h ps rs d (lists_same f c d is.current m ps u) was.lists

  abbrev EachJoined : DiskFile → Type 0
  EachJoined g = (m : Header) → IsOpenIn g m c → (ps : List Image) × FileLists g m ps c × StandsFor s m.every ps c.output

  each_new : EachJoined (other f)
  each_new m a = (r ∷ [], subst (λ (x : Header). FileLists (other f) x (r ∷ []) c) (same_open (other f) k m c now.lists.open_in a) now.lists, subst (λ (x : Header). StandsFor s x.every (r ∷ []) c.output) (same_open (other f) k m c now.lists.open_in a) joined_now)

  each_old : EachJoined f
  each_old m a =
      let it = within.stands.each f m was.image_file (open_same f c d is.current m a) in
      (it.0, lists_same f d c (sym is.current) m it.0 it.1, subst (λ (l : List ℕ). StandsFor s m.every it.0 l) (sym is.output) it.2)

  each_joined : (g : DiskFile) → g ≢ Output → EachJoined g
  each_joined g ng = ⊎_elim (λ e. subst EachJoined (sym e) each_old) (λ e. subst EachJoined (sym e) each_new) (this_or_other f g was.image_file ng)

  older : (m : Header) → IsOpenIn f m c → m.generation < k.generation
  older m a = now.aside m (subst (λ g. IsOpenIn g m c) (sym (other_back f was.image_file)) a)

  abbrev BehindOf : DiskFile → DiskFile → Type 0
  BehindOf a b = (l m : Header) (ps qs : List Image) (x y : Fields) → FileLists a l ps c → FileLists b m qs c → newest_of None ps ≡ Some x → newest_of None qs ≡ Some y → l.generation < m.generation → x.steps ≤ y.steps

  same_file : (g : DiskFile) → BehindOf g g
  same_file g l m ps qs x y u v p q less = absurd (omega (arith, less, ap (λ (z : Header). z.generation) (same_lists g l m ps qs c u v).0))

  old_first : BehindOf f (other f)
  old_first l m ps qs x y u v p q less =
      let a = old_lists l ps u in
      let b = same_lists (other f) m k qs (r ∷ []) c v now.lists in
      let x_is : x ≡ r.fields = field_is (newest_of None rs) x r.fields (ap (newest_of None) (sym a.1) ∙ p) j.fields in
      let y_is : y ≡ r.fields = field_is (newest_of None (r ∷ [])) y r.fields (ap (newest_of None) (sym b.1) ∙ q) refl in
      omega (arith, ap (λ (z : Fields). z.steps) x_is, ap (λ (z : Fields). z.steps) y_is)
    where
      field_is : (o : Option Fields) (a b : Fields) → o ≡ Some a → o ≡ Some b → a ≡ b
      field_is o a b e i = cc

  new_first : BehindOf (other f) f
  new_first l m ps qs x y u v p q less = absurd (omega (arith, less, older m v.open_in, ap (λ (z : Header). z.generation) (same_lists (other f) l k ps (r ∷ []) c u now.lists).0))

  behind_of : (a b : DiskFile) → a ≢ Output → b ≢ Output → BehindOf a b
  behind_of a b na nb = ⊎_elim
      (λ e. subst (λ z. BehindOf z b) (sym e) (⊎_elim (λ i. subst (BehindOf f) (sym i) (same_file f)) (λ i. subst (BehindOf f) (sym i) old_first) (this_or_other f b was.image_file nb)))
      (λ e. subst (λ z. BehindOf z b) (sym e) (⊎_elim (λ i. subst (BehindOf (other f)) (sym i) new_first) (λ i. subst (BehindOf (other f)) (sym i) (same_file (other f))) (this_or_other f b was.image_file nb)))
      (this_or_other f a was.image_file na)

  abbrev Reach : DiskFile → Type 0
  Reach g = (m : Header) (ps : List Image) (x : Fields) → FileLists g m ps c → newest_of None ps ≡ Some x → length (output_of s x.steps) ≤ n

  reach_old : Reach f
  reach_old m ps x u p = within.within f m ps x was.image_file (lists_same f c d is.current m ps u) p

  reach_new : Reach (other f)
  reach_new m ps x u p =
      let b = same_lists (other f) m k ps (r ∷ []) c u now.lists in
      subst (λ (z : Fields). length (output_of s z.steps) ≤ n) (sym (field_is (newest_of None (r ∷ [])) x r.fields (ap (newest_of None) (sym b.1) ∙ p) refl)) front_within
    where
      field_is : (o : Option Fields) (a b : Fields) → o ≡ Some a → o ≡ Some b → a ≡ b
      field_is o a b e i = cc

  reach_each : (g : DiskFile) → g ≢ Output → Reach g
  reach_each g ng = ⊎_elim (λ e. subst Reach (sym e) reach_old) (λ e. subst Reach (sym e) reach_new) (this_or_other f g was.image_file ng)

  abbrev Apart : DiskFile → Type 0
  Apart g = (l m : Header) → IsOpenIn g l c → IsOpenIn (other g) m c → l.generation ≢ m.generation

  apart_joined : Apart f
  apart_joined l m u v e = absurd (omega (arith, older l u, ap (λ (z : Header). z.generation) (same_open (other f) k m c now.lists.open_in v), e))

  apart_by : (g : DiskFile) → f ≡ g → (l m : Header) → IsOpenIn One l c → IsOpenIn Two m c → l.generation ≢ m.generation
  apart_by Output e l m u v = absurd (was.image_file e)
  apart_by One e l m u v = subst Apart e apart_joined l m u v
  apart_by Two e l m u v = λ i. subst Apart e apart_joined m l v u (sym i)

  one_stands : StandsWithin s n c
  one_stands = record {
    stands = record {
      headers = now.headers;
      differ = apart_by f refl;
      each = λ g m ng. each_joined g ng m;
      order = λ a b l m ps qs x y na nb. behind_of a b na nb l m ps qs x y;
    };
    within = λ g m ps x ng. reach_each g ng m ps x;
  }

pub joined_record_stands : (s : Source) (n : ℕ) (f : DiskFile) (h k : Header) (rs : List Image) (r : Image) (d c : Store) → StandsWithin s n d → Joins rs r → IsJoinedIn f h k rs r d c → StandsWithin s n c
joined_record_stands = one_stands
