-- What a change of the output leaves standing.
use Rattle.std.proofs.Common.{◌≡◌, ◌≢◌, refl, sym, ◌∙◌, ap, ℕ, ◌≤◌, List, length, take, None, arith}
use Rattle.std.proofs.lemmas.List.{take-take, length-take}
use Rattle.disk_model.specs.declared.disk_file.DiskFile.{DiskFile}
use Rattle.disk_model.specs.declared.disk_file.DiskFile.TheVariants.{Output, One, Two}
use Rattle.disk_model.specs.Store.{Store, file_of}
use Rattle.image_format.specs.declared.header.Header.{Header}
use Rattle.image_format.specs.Image.{Image}
use Rattle.image_chain.specs.Records.{header_in, records_at}
use Rattle.output_file.specs.OnDisk.{IsBehind}
use Rattle.run_images.specs.Source.{Source, output_of}
use Rattle.run_images.specs.Stands.{StandsFor, StandsWithin}
use Rattle.image_chain.specs.Files.{IsOpenIn, FileLists}

front_stays : (n : ℕ) (o x y : List ℕ) → length o ≤ n → take n y ≡ take n x → take (length o) x ≡ o → take (length o) y ≡ o
front_stays n o x y le e is = sym (take-take (length o) n y le) ∙ ap (take (length o)) e ∙ take-take (length o) n x le ∙ is

-- the same bytes in a file
module _ (f : DiskFile) (c d : Store) (same : file_of f c ≡ file_of f d) where
  pub open_same : (h : Header) → IsOpenIn f h c → IsOpenIn f h d
  open_same h a = record { header = sym (ap (header_in f) same) ∙ a.header; gate = a.gate }

  pub lists_same : (h : Header) (rs : List Image) → FileLists f h rs c → FileLists f h rs d
  lists_same h rs a = record { open_in = open_same h a.open_in; read = sym (ap (λ (l : List ℕ). records_at h.max f l None 15) same) ∙ a.read; number = a.number }

-- other bytes behind the front that they need
pub stands_on : (s : Source) (n every : ℕ) (rs : List Image) (x y : List ℕ) → take n y ≡ take n x → (a : StandsFor s every rs x) → length (output_of s a.newest.steps) ≤ n → StandsFor s every rs y
stands_on s n every rs x y e a le = record { newest = a.newest; newest_is = a.newest_is; joined = a.joined; begins = front_stays n (output_of s a.newest.steps) x y le e a.begins; words = a.words; spaced = a.spaced }

pub grow_behind : (s : Source) (n m : ℕ) (d c : Store) → n ≤ m → StandsWithin s n d → IsBehind m d c → StandsWithin s n c
grow_behind s n m d c le a is = record {
  stands = record {
    headers = λ f not. let h = a.stands.headers f not in (h.0, ap (header_in f) (files f not) ∙ h.1);
    differ = λ h k x y. a.stands.differ h k (open_same One c d is.one h x) (open_same Two c d is.two k y);
    each = λ f h not x.
        let it = a.stands.each f h not (open_same f c d (files f not) h x) in
        (it.0, lists_same f d c (sym (files f not)) h it.0 it.1, stands_on s n h.every it.0 d.output c.output front it.2 (a.within f h it.0 it.2.newest not it.1 it.2.newest_is));
    order = λ f g h k rs qs x y nf ng p q. a.stands.order f g h k rs qs x y nf ng (lists_same f c d (files f nf) h rs p) (lists_same g c d (files g ng) k qs q);
  };
  within = λ f h rs x not p. a.within f h rs x not (lists_same f c d (files f not) h rs p);
}
  where
    files : (f : DiskFile) → f ≢ Output → file_of f c ≡ file_of f d
    files Output not = absurd (not refl)
    files One not = is.one
    files Two not = is.two

    front : take n c.output ≡ take n d.output
    front = sym (take-take n m c.output le) ∙ ap (take n) is.output ∙ take-take n m d.output le

-- a front of n bytes at most
pub front_length : (n : ℕ) (o bytes : List ℕ) → take (length o) (take n bytes) ≡ o → length o ≤ n
front_length n o bytes e = omega (arith, ap length e, length-take (length o) (take n bytes), length-take n bytes)
