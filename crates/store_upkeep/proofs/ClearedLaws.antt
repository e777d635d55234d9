-- A store that is cleared: its image files, and then its output.
use Rattle.std.proofs.Common.{◌≡◌, ◌≢◌, refl, sym, ◌∙◌, ap, subst, ℕ, ◌<◌, ◌≤◌, true, false, IsTrue, inl, inr, ⊎_elim, List, [], Option, Some, None, Result, Ok}
use Rattle.disk_model.specs.declared.disk_file.DiskFile.{DiskFile}
use Rattle.disk_model.specs.declared.disk_file.DiskFile.TheVariants.{Output, One, Two}
use Rattle.disk_model.specs.Store.{Store, file_of, with_file}
use Rattle.disk_model.specs.Change.{Change, Cut, Sync}
use Rattle.disk_model.specs.View.{View, IsMade, Changes}
use Rattle.disk_model.specs.Moments.{Among, LeavesOnly}
use Rattle.disk_model.proofs.Calls.{changed, after_change, weaken, synced_leaves}
use Rattle.image_format.specs.declared.fields.Fields.{Fields}
use Rattle.image_format.specs.declared.header.Header.{Header}
use Rattle.image_format.specs.Image.{Image}
use Rattle.image_chain.specs.Clear.{blank, IsBlank, IsClearing, IsCleared}
use Rattle.image_chain.specs.Files.{IsOpenIn, FileLists}
use Rattle.image_chain.specs.Records.{Damage, header_in, newest_of, chain_in}
use Rattle.image_chain.proofs.ClearLaws.{header_of_blank}
use Rattle.image_chain.proofs.ListLaws.{current_is}
use Rattle.run_images.specs.Source.{Source}
use Rattle.run_images.specs.Stands.{Stands, StandsFor, AllStand}
use Rattle.run_images.proofs.FoundLaws.{chainless_stands}
use Rattle.run_images.proofs.OutputLaws.{open_same, lists_same}
use Rattle.store_upkeep.specs.Clearing.{IsEmptied, IsEmptying}
use Rattle.store_upkeep.specs.Keeping.{StaysStanding}

-- ---- every moment

pub clear_moments : (u v : View) → LeavesOnly u v (Among u.may_leave IsClearing) → LeavesOnly u v (Among u.may_leave IsEmptying)
clear_moments u v run = weaken u v (Among u.may_leave IsEmptying) (Among u.may_leave IsClearing) run (λ c from. (from.0, from.1, inl from.2))

-- a blank store, behind an earlier outcome
abbrev Blanked : View → Store → Type 0
Blanked u c = (d : Store) × u.may_leave d × IsBlank c

blank_beside : (bytes : List ℕ) (d c : Store) → c ≡ with_file Output bytes d → IsBlank d → IsBlank c
blank_beside bytes d c is blank = record { one = ap (λ (s : Store). s.one) is ∙ blank.one; two = ap (λ (s : Store). s.two) is ∙ blank.two }

blanked_then : {T E : Type 0} (change : Change) (result : Result T E) (u v w : View) → IsTrue v.tells → Changes Output change result v w → ((c : Store) → v.may_leave c → Blanked u c) → (c : Store) → w.may_leave c → Blanked u c
blanked_then change result u v w told call was c left =
    ⊎_elim (was c) (λ from. let b = was from.0 from.1 in (b.0, b.1, blank_beside from.2.0 from.0 c from.2.2 b.2)) (changed Output change result v w call told c left)

module _ (u v : View) (told : IsTrue u.tells) (run : LeavesOnly u v (Among u.may_leave IsClearing)) (cleared : IsCleared v) where
  here : IsTrue v.tells
  here = subst IsTrue (sym run.tells) told

  first : (c : Store) → v.may_leave c → Blanked u c
  first c left = let from = run.now told c left in (from.0, from.1, cleared.left c left)

  module _ {T E : Type 0} (change : Change) (result : Result T E) (w : View) (cut : Changes Output change result v w) where
    blanked_cut : (c : Store) → w.may_leave c → Blanked u c
    blanked_cut = blanked_then change result u v w here cut first

    pub cut_moments : LeavesOnly u w (Among u.may_leave IsEmptying)
    cut_moments = after_change Output change result u v w (Among u.may_leave IsEmptying) (λ _. told) (clear_moments u v run) cut (λ _ c left. let b = blanked_cut c left in (b.0, b.1, inr b.2))

    module _ {U F : Type 0} (next : Result U F) (x : View) (sync : Changes Output Sync next w x) where
      there : IsTrue w.tells
      there = subst IsTrue (sym cut.tells) here

      pub blanked_sync : (c : Store) → x.may_leave c → Blanked u c
      blanked_sync = blanked_then Sync next u w x there sync blanked_cut

      pub sync_moments : LeavesOnly u x (Among u.may_leave IsEmptying)
      sync_moments = after_change Output Sync next u w x (Among u.may_leave IsEmptying) (λ _. told) cut_moments sync (λ _ c left. let b = blanked_sync c left in (b.0, b.1, inr b.2))

-- ---- the end

none_in_blank : (c : Store) → IsBlank c → chain_in c ≡ Ok None
none_in_blank c is = current_is c _ _ None (header_of_blank One c.one is.one) (header_of_blank Two c.two is.two) refl

pub emptied : (v w x : View) → IsCleared v → IsMade Output (Cut 0) v w → IsMade Output Sync w x → ((c : Store) → x.may_leave c → IsBlank c) → IsEmptied x
emptied v w x cleared cut synced blanked = record {
  cleared = record {
    reads = reads;
    left = blanked;
    none_read = none_in_blank x.seen reads;
    none_left = λ c left. none_in_blank c (blanked c left);
  };
  output = record {
    reads = ap (λ (s : Store). s.output) synced.seen ∙ none;
    left = λ c left. synced_leaves Output w x synced c left ∙ none;
  };
}
  where
    reads : IsBlank x.seen
    reads = record {
      one = ap (λ (s : Store). s.one) synced.seen ∙ ap (λ (s : Store). s.one) cut.seen ∙ cleared.reads.one;
      two = ap (λ (s : Store). s.two) synced.seen ∙ ap (λ (s : Store). s.two) cut.seen ∙ cleared.reads.two;
    }

    none : w.seen.output ≡ []
    none = ap (λ (s : Store). s.output) cut.seen

-- ---- a store that stands

same_header : (h k : Header) (x : Result (Option Header) Damage) → x ≡ Ok (Some h) → x ≡ Ok (Some k) → h ≡ k
same_header h k x a b = cc

-- no blank file is open
blank_is_shut : (f : DiskFile) (h : Header) (c : Store) → file_of f c ≡ blank → IsOpenIn f h c → ⊥
blank_is_shut f h c is a =
    let shut : Header = record { generation = 1; every = 1; max = 16; gate_open = false } in
    let same : h ≡ shut = same_header h shut (header_in f (file_of f c)) a.header (header_of_blank f (file_of f c) is) in
    absurd (let z : false ≡ true = sym (ap (λ (k : Header). k.gate_open) same) ∙ a.gate in cc)

-- only file Two is blank
one_stands : (s : Source) (d c : Store) → Stands s d → c.output ≡ d.output → c.one ≡ d.one → c.two ≡ blank → Stands s c
one_stands s d c stands output one two = record {
  headers = headers;
  differ = λ h k a b. absurd (blank_is_shut Two k c two b);
  each = each;
  order = order;
}
  where
    headers : (f : DiskFile) → f ≢ Output → (h : Option Header) × (header_in f (file_of f c) ≡ Ok h)
    headers Output not = absurd (not refl)
    headers One not = let h = stands.headers One not in (h.0, ap (header_in One) one ∙ h.1)
    headers Two not = (Some (record { generation = 1; every = 1; max = 16; gate_open = false }), header_of_blank Two c.two two)

    each : (f : DiskFile) (h : Header) → f ≢ Output → IsOpenIn f h c → (rs : List Image) × FileLists f h rs c × StandsFor s h.every rs c.output
    each Output h not a = absurd (not refl)
    each One h not a =
        let it = stands.each One h not (open_same One c d one h a) in
        (it.0, lists_same One d c (sym one) h it.0 it.1, subst (StandsFor s h.every it.0) (sym output) it.2)
    each Two h not a = absurd (blank_is_shut Two h c two a)

    order : (f g : DiskFile) (h k : Header) (rs qs : List Image) (x y : Fields) → f ≢ Output → g ≢ Output → FileLists f h rs c → FileLists g k qs c → newest_of None rs ≡ Some x → newest_of None qs ≡ Some y → h.generation < k.generation → x.steps ≤ y.steps
    order Output g h k rs qs x y nf ng a b p q less = absurd (nf refl)
    order Two g h k rs qs x y nf ng a b p q less = absurd (blank_is_shut Two h c two a.open_in)
    order One Output h k rs qs x y nf ng a b p q less = absurd (ng refl)
    order One Two h k rs qs x y nf ng a b p q less = absurd (blank_is_shut Two k c two b.open_in)
    order One One h k rs qs x y nf ng a b p q less = stands.order One One h k rs qs x y nf ng (lists_same One c d one h rs a) (lists_same One c d one k qs b) p q less

blank_stands : (s : Source) (c : Store) → IsBlank c → Stands s c
blank_stands s c is = (chainless_stands s 0 c (none_in_blank c is)).stands

pub emptied_stand : (v : View) → IsEmptied v → (s : Source) → AllStand s v
emptied_stand v is s c left = blank_stands s c (is.cleared.left c left)

same_store : (d c : Store) → c.output ≡ d.output → c.one ≡ d.one → c.two ≡ d.two → c ≡ d
same_store d c output one two = λ i. record { output = output i; one = one i; two = two i }

emptying_stands : (s : Source) (d c : Store) → Stands s d → IsEmptying d c → Stands s c
emptying_stands s d c stands (inr is) = blank_stands s c is
emptying_stands s d c stands (inl is) =
    ⊎_elim
    (λ a. ⊎_elim (λ two. subst (Stands s) (sym (same_store d c is.output a.0 two)) stands) (one_stands s d c stands is.output a.0) a.1)
    (blank_stands s c) is.images

pub emptying_standing : (u v : View) → (IsTrue u.tells → LeavesOnly u v (Among u.may_leave IsEmptying)) → StaysStanding u v
emptying_standing u v run told s is stand = weaken u v (Stands s) (Among u.may_leave IsEmptying) (run told) (λ c from. emptying_stands s from.0 c (stand from.0 from.1) from.2)
