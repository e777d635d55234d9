-- Stores that stand.
use Rattle.std.proofs.Common.{◌≡◌, ◌≢◌, refl, sym, ◌∙◌, ap, subst, ℕ, ◌+◌, Bool, true, false, cond, ◌==◌, nat_lt, List, [], length, Option, Some, None, Result, Ok, Err, arith}
use Rattle.std.proofs.lemmas.Bool.Decides.{nat_tests}
use Rattle.disk_model.specs.declared.disk_file.DiskFile.{DiskFile}
use Rattle.disk_model.specs.declared.disk_file.DiskFile.TheVariants.{Output, One, Two}
use Rattle.disk_model.specs.Store.{Store, file_of}
use Rattle.image_format.specs.declared.header.Header.{Header}
use Rattle.image_format.specs.Image.{Image}
use Rattle.image_format.specs.Reading.{◌>>=◌}
use Rattle.image_chain.specs.Records.{Damage, Found, header_in, only_open, newer, newest_of, in_number, found_in, chain_in}
use Rattle.run_images.specs.Source.{Source}
use Rattle.run_images.specs.Stands.{Stands, StandsFor}
use Rattle.image_chain.specs.Files.{IsOpenIn, FileLists}

-- the chain of a store with these headers
pub chain_by : (c : Store) (one two : Option Header) (current : Option (DiskFile × Header)) → header_in One c.one ≡ Ok one → header_in Two c.two ≡ Ok two → newer (only_open one) (only_open two) ≡ Ok current → chain_in c ≡ found_in c current
unfolding chain_in
chain_by c one two current first second both =
    ap (λ (x : Result (Option Header) Damage). x >>= λ one. header_in Two c.two >>= λ two. newer (only_open one) (only_open two) >>= λ current. found_in c current) first
    ∙ ap (λ (x : Result (Option Header) Damage). x >>= λ two. newer (only_open one) (only_open two) >>= λ current. found_in c current) second
    ∙ ap (λ (x : Result (Option (DiskFile × Header)) Damage). x >>= λ current. found_in c current) both

empty_header : (f : DiskFile) → header_in f [] ≡ Ok None
unfolding header_in
empty_header f = refl

other_header : (h : Header) (x y : Result (Option Header) Damage) → x ≡ Ok None → y ≡ Ok (Some h) → x ≡ y → ⊥
other_header h x y a b e = let z : Ok None ≡ Ok (Some h) = sym a ∙ e ∙ b in cc

none_open : (f : DiskFile) (h : Header) (bytes : List ℕ) → bytes ≡ [] → header_in f bytes ≡ Ok (Some h) → ⊥
none_open f h bytes is e = other_header h (header_in f bytes) (header_in f bytes) (ap (header_in f) is ∙ empty_header f) e refl

pub empty_stands : (s : Source) (c : Store) → c.one ≡ [] → c.two ≡ [] → Stands s c
empty_stands s c one two = record {
  headers = headers;
  differ = λ h k a b. absurd (none_open One h c.one one a.header);
  each = λ f h not a. absurd (none f h not a);
  order = λ f g h k rs qs x y nf ng a b p q less. absurd (none f h nf a.open_in);
}
  where
    headers : (f : DiskFile) → f ≢ Output → (h : Option Header) × (header_in f (file_of f c) ≡ Ok h)
    headers Output not = absurd (not refl)
    headers One not = (None, ap (header_in One) one ∙ empty_header One)
    headers Two not = (None, ap (header_in Two) two ∙ empty_header Two)

    none : (f : DiskFile) (h : Header) → f ≢ Output → IsOpenIn f h c → ⊥
    none Output h not a = not refl
    none One h not a = none_open One h c.one one a.header
    none Two h not a = none_open Two h c.two two a.header

-- what is found in a file that lists records
pub found_lists : (f : DiskFile) (h : Header) (rs : List Image) (c : Store) (a : FileLists f h rs c) → found_in c (Some (f, h)) ≡ Ok (Some (record { file = f; header = h; records = rs }))
found_lists f h rs c a =
    ap (λ (x : Result (List Image) Damage). x >>= λ records. in_number f (h.generation + length records) (newest_of None records) >>= λ _. Ok (Some (record { file = f; header = h; records = records }))) a.read
    ∙ ap (λ (x : Result (Unit {0}) Damage). x >>= λ _. Ok (Some (record { file = f; header = h; records = rs }))) a.number

pub same_found : (x : Result (Option Found) Damage) (a b : Found) → x ≡ Ok (Some a) → x ≡ Ok (Some b) → a ≡ b
same_found x a b e f = cc

pub none_found : (x : Result (Option Found) Damage) (b : Found) → x ≡ Ok None → x ≡ Ok (Some b) → ⊥
none_found x b e f = cc

bad_newer : (d : Damage) (b : Option (DiskFile × Header)) (x : Result (Option (DiskFile × Header)) Damage) → x ≡ Err d → x ≡ Ok b → ⊥
bad_newer d b x e f = cc

none_some : {h : Header} → None ≡ Some h → ⊥
none_some e = cc

some_is : {h k : Header} → Some h ≡ Some k → h ≡ k
some_is e = cc

-- a header that is open
pub open_is : (o : Option Header) (h : Header) → only_open o ≡ Some h → (o ≡ Some h) × (h.gate_open ≡ true)
open_is None h e = absurd (none_some e)
open_is (Some k) h e = by_gate k.gate_open refl e
  where
    by_gate : (b : Bool) → k.gate_open ≡ b → cond b (Some k) None ≡ Some h → (Some k ≡ Some h) × (h.gate_open ≡ true)
    by_gate true is e = (e, sym (ap (λ (x : Header). x.gate_open) (some_is e)) ∙ is)
    by_gate false is e = absurd (none_some e)

module _ (s : Source) (c : Store) (found : Found) (stands : Stands s c) (is : chain_in c ≡ Ok (Some found)) where
  abbrev Answer : Type 0
  Answer = StandsFor s found.header.every found.records c.output

  -- the current file is this one
  by_file : (f : DiskFile) (h : Header) → f ≢ Output → IsOpenIn f h c → chain_in c ≡ found_in c (Some (f, h)) → Answer
  by_file f h not a e =
      let it = stands.each f h not a in
      let here : Found = record { file = f; header = h; records = it.0 } in
      let same : here ≡ found = same_found (chain_in c) here found (e ∙ found_lists f h it.0 c it.1) is in
      subst (λ (x : Found). StandsFor s x.header.every x.records c.output) same it.2

  module _ (one two : Option Header) (first : header_in One c.one ≡ Ok one) (second : header_in Two c.two ≡ Ok two) where
    chain : (current : Option (DiskFile × Header)) → newer (only_open one) (only_open two) ≡ Ok current → chain_in c ≡ found_in c current
    chain current e = chain_by c one two current first second e

    open_one : (h : Header) → only_open one ≡ Some h → IsOpenIn One h c
    open_one h e = let o = open_is one h e in record { header = first ∙ ap (λ (x : Option Header). Ok x) o.0; gate = o.1 }

    open_two : (h : Header) → only_open two ≡ Some h → IsOpenIn Two h c
    open_two h e = let o = open_is two h e in record { header = second ∙ ap (λ (x : Option Header). Ok x) o.0; gate = o.1 }

    not_one : One ≢ Output
    not_one e = cc

    not_two : Two ≢ Output
    not_two e = cc

    both_open : (h k : Header) → only_open one ≡ Some h → only_open two ≡ Some k → newer (only_open one) (only_open two) ≡ newer (Some h) (Some k)
    both_open h k a b = ap (λ (x : Option Header). newer x (only_open two)) a ∙ ap (λ (x : Option Header). newer (Some h) x) b

    by_order : (h k : Header) → only_open one ≡ Some h → only_open two ≡ Some k → (b d : Bool) → (h.generation == k.generation) ≡ b → nat_lt k.generation h.generation ≡ d → Answer
    by_order h k a b true d e f = absurd (stands.differ h k (open_one h a) (open_two k b) (grind (arith, nat_tests, e)))
    by_order h k a b false true e f = by_file One h not_one (open_one h a) (chain (Some (One, h)) (both_open h k a b ∙ rw (e, f) refl))
    by_order h k a b false false e f = by_file Two k not_two (open_two k b) (chain (Some (Two, k)) (both_open h k a b ∙ rw (e, f) refl))

    by_open : (x y : Option Header) → only_open one ≡ x → only_open two ≡ y → Answer
    by_open None None a b = absurd (none_found (chain_in c) found (chain None (ap (λ (x : Option Header). newer x (only_open two)) a ∙ ap (λ (x : Option Header). newer None x) b)) is)
    by_open (Some h) None a b = by_file One h not_one (open_one h a) (chain (Some (One, h)) (ap (λ (x : Option Header). newer x (only_open two)) a ∙ ap (λ (x : Option Header). newer (Some h) x) b))
    by_open None (Some k) a b = by_file Two k not_two (open_two k b) (chain (Some (Two, k)) (ap (λ (x : Option Header). newer x (only_open two)) a ∙ ap (λ (x : Option Header). newer None x) b))
    by_open (Some h) (Some k) a b = by_order h k a b (h.generation == k.generation) (nat_lt k.generation h.generation) refl refl

  by_headers : Answer
  by_headers =
      let one = stands.headers One (λ e. cc) in
      let two = stands.headers Two (λ e. cc) in
      by_open one.0 two.0 one.1 two.1 (only_open one.0) (only_open two.0) refl refl

pub kept_stands : (s : Source) (c : Store) (found : Found) → Stands s c → chain_in c ≡ Ok (Some found) → StandsFor s found.header.every found.records c.output
kept_stands s c found stands is = by_headers s c found stands is
