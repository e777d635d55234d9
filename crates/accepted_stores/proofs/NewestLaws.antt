-- The checkpoint of the source's run at which the newest image of records that stand was taken.
use Rattle.std.proofs.Common.{◌≡◌, sym, ◌∙◌, ap, subst, ℕ, List, [], ◌∷◌, ◌++◌, Option, Some, None, Ok}
use Rattle.ckpt_base.specs.Event.{Event, Checkpoint}
use Rattle.disk_model.specs.Store.{Store}
use Rattle.image_format.specs.declared.fields.Fields.{Fields}
use Rattle.image_format.specs.Image.{Image}
use Rattle.image_chain.specs.Records.{Found, chain_in, newest_of}
use Rattle.run_images.specs.Since.{at_first, since_after}
use Rattle.run_images.specs.Images.{Taking, TakenImage, fields_at}
use Rattle.run_images.specs.JoinedList.{IsJoinedList}
use Rattle.run_images.specs.Source.{Source, run_of, taking_of, images_of}
use Rattle.run_images.specs.Stands.{Stands, StandsFor}
use Rattle.run_images.proofs.ImageLaws.{same_last}
use Rattle.run_images.proofs.JoinLaws.{Newest, joined_newest}
use Rattle.run_images.proofs.FactLaws.{Past, all_facts}
use Rattle.run_images.proofs.StandLaws.{kept_stands}

-- the newest image was taken at a checkpoint of the source's run, behind these events
pub record IsTakenBehind (s : Source) (every : ℕ) (f : Fields) : Type 0 where
  pub before : List Event
  pub tick : ℕ
  pub behind : List Event
  pub split : (run_of s f.steps).events ≡ before ++ Checkpoint f.node tick ∷ behind
  pub fields : f ≡ fields_at s.marks f.node tick (since_after every before at_first)

some_is : {X : Type 0} {a b : X} → Some a ≡ Some b → a ≡ b
some_is e = cc

none_some : {X : Type 0} {a : X} → None ≡ Some a → ⊥
none_some e = cc

none_image : (x : TakenImage) (xs : List TakenImage) → xs ++ x ∷ [] ≡ [] → ⊥
none_image x [] e = cc
none_image x (y ∷ ys) e = cc

module _ (s : Source) (every : ℕ) (rs : List Image) (file : List ℕ) (stands : StandsFor s every rs file) where
  abbrev newest : Fields
  newest = stands.newest

  abbrev shown : List Event
  shown = (run_of s newest.steps).events

  abbrev taking : Taking
  taking = taking_of s every

  last : Newest (Some newest) (images_of s every newest.steps)
  last = by_records rs stands.newest_is stands.joined
    where
      by_records : (qs : List Image) → newest_of None qs ≡ Some newest → IsJoinedList qs (images_of s every newest.steps) → Newest (Some newest) (images_of s every newest.steps)
      by_records [] e j = absurd (none_some e)
      by_records (q ∷ qs) e j = subst (λ (o : Option Fields). Newest o (images_of s every newest.steps)) e (joined_newest q qs (images_of s every newest.steps) j)

  some_image : (since_after every shown at_first).number ≡ 0 → ⊥
  some_image z = none_image last.image last.front (sym last.split ∙ (all_facts taking shown).none z)

  past : Past taking shown (since_after every shown at_first)
  past = (all_facts taking shown).some some_image

  image_is : past.image.fields ≡ newest
  image_is = ap (λ (i : TakenImage). i.fields) (same_last past.front last.front past.image last.image (sym past.images_are ∙ last.split)) ∙ sym (some_is last.fields)

  node_is : past.image.fields.node ≡ newest.node
  node_is = ap (λ (x : Fields). x.node) image_is

  pub newest_taken : IsTakenBehind s every stands.newest
  newest_taken = record {
    before = past.before;
    tick = past.tick;
    behind = past.behind;
    split = past.split ∙ ap (λ k. past.before ++ Checkpoint k past.tick ∷ past.behind) node_is;
    fields = sym image_is ∙ ap (λ (i : TakenImage). i.fields) past.taken ∙ ap (λ k. fields_at s.marks k past.tick (since_after every past.before at_first)) node_is;
  }

-- the records of a chain that is found stand, and their newest is this one
pub record StandsWith (s : Source) (found : Found) (file : List ℕ) (f : Fields) : Type 0 where
  pub stands : StandsFor s found.header.every found.records file
  pub same : stands.newest ≡ f

pub found_stands : (s : Source) (c : Store) (found : Found) (f : Fields) → Stands s c → chain_in c ≡ Ok (Some found) → newest_of None found.records ≡ Some f → StandsWith s found c.output f
found_stands s c found f stands chain newest_is =
    let a = kept_stands s c found stands chain in
    record { stands = a; same = some_is (sym a.newest_is ∙ newest_is) }

pub marks_are : (s : Source) (c : Store) (found : Found) (f : Fields) → Stands s c → chain_in c ≡ Ok (Some found) → newest_of None found.records ≡ Some f → f.marks ≡ s.marks
marks_are s c found f stands chain newest_is =
    let a = found_stands s c found f stands chain newest_is in
    let taken = newest_taken s found.header.every found.records c.output a.stands in
    ap (λ (x : Fields). x.marks) (sym a.same ∙ taken.fields)
