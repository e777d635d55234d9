-- A store that stands is whole.
use Rattle.std.proofs.Common.{◌≡◌, ◌≢◌, refl, ◌∙◌, ap, ◌==◌, nat_lt, Bool, true, false, Option, Some, None, Ok, arith}
use Rattle.std.proofs.lemmas.Bool.Decides.{nat_tests}
use Rattle.disk_model.specs.declared.disk_file.DiskFile.{DiskFile}
use Rattle.disk_model.specs.declared.disk_file.DiskFile.TheVariants.{Output, One, Two}
use Rattle.disk_model.specs.Store.{Store}
use Rattle.image_format.specs.declared.header.Header.{Header}
use Rattle.image_chain.specs.Records.{Found, header_in, only_open, newer, found_in, chain_in}
use Rattle.image_chain.specs.Files.{IsOpenIn}
use Rattle.run_images.specs.Source.{Source}
use Rattle.run_images.specs.Stands.{Stands}
use Rattle.run_images.proofs.StandLaws.{chain_by, found_lists, open_is}

module _ (s : Source) (c : Store) (stands : Stands s c) where
  abbrev Whole : Type 0
  Whole = (found : Option Found) × (chain_in c ≡ Ok found)

  -- the current file is this one
  by_file : (f : DiskFile) (h : Header) → f ≢ Output → IsOpenIn f h c → chain_in c ≡ found_in c (Some (f, h)) → Whole
  by_file f h not a e = let it = stands.each f h not a in (Some (record { file = f; header = h; records = it.0 }), e ∙ found_lists f h it.0 c it.1)

  module _ (one two : Option Header) (first : header_in One c.one ≡ Ok one) (second : header_in Two c.two ≡ Ok two) where
    chain : (current : Option (DiskFile × Header)) → newer (only_open one) (only_open two) ≡ Ok current → chain_in c ≡ found_in c current
    chain current e = chain_by c one two current first second e

    open_one : (h : Header) → only_open one ≡ Some h → IsOpenIn One h c
    open_one h e = let o = open_is one h e in record { header = first ∙ ap (λ (x : Option Header). Ok x) o.0; gate = o.1 }

    open_two : (h : Header) → only_open two ≡ Some h → IsOpenIn Two h c
    open_two h e = let o = open_is two h e in record { header = second ∙ ap (λ (x : Option Header). Ok x) o.0; gate = o.1 }

    not_one : One ≢ Output
    not_one e = cc

    not_two : Two ≢ Output
    not_two e = cc

    both : (x y : Option Header) → only_open one ≡ x → only_open two ≡ y → newer (only_open one) (only_open two) ≡ newer x y
    both x y a b = ap (λ (z : Option Header). newer z (only_open two)) a ∙ ap (λ (z : Option Header). newer x z) b

    by_order : (h k : Header) → only_open one ≡ Some h → only_open two ≡ Some k → (b d : Bool) → (h.generation == k.generation) ≡ b → nat_lt k.generation h.generation ≡ d → Whole
    by_order h k a b true d e f = absurd (stands.differ h k (open_one h a) (open_two k b) (grind (arith, nat_tests, e)))
    by_order h k a b false true e f = by_file One h not_one (open_one h a) (chain (Some (One, h)) (both (Some h) (Some k) a b ∙ rw (e, f) refl))
    by_order h k a b false false e f = by_file Two k not_two (open_two k b) (chain (Some (Two, k)) (both (Some h) (Some k) a b ∙ rw (e, f) refl))

    by_open : (x y : Option Header) → only_open one ≡ x → only_open two ≡ y → Whole
    by_open None None a b = (None, chain None (both None None a b))
    by_open (Some h) None a b = by_file One h not_one (open_one h a) (chain (Some (One, h)) (both (Some h) None a b))
    by_open None (Some k) a b = by_file Two k not_two (open_two k b) (chain (Some (Two, k)) (both None (Some k) a b))
    by_open (Some h) (Some k) a b = by_order h k a b (h.generation == k.generation) (nat_lt k.generation h.generation) refl refl

  pub standing_whole : (found : Option Found) × (chain_in c ≡ Ok found)
  standing_whole =
      let one = stands.headers One (λ e. cc) in
      let two = stands.headers Two (λ e. cc) in
      by_open one.0 two.0 one.1 two.1 (only_open one.0) (only_open two.0) refl refl
