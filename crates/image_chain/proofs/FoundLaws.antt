-- A chain that is found, and the files that it is found in.
use Rattle.std.proofs.Common.{◌≡◌, ◌≢◌, refl, sym, ◌∙◌, ap, subst, ◌+◌, ◌<◌, Bool, true, false, cond, ◌==◌, nat_lt, List, [], ◌∷◌, length, Option, Some, None, Result, Ok, Err, arith}
use Rattle.std.proofs.lemmas.Bool.Decides.{nat_tests}
use Rattle.disk_model.specs.declared.disk_file.DiskFile.{DiskFile}
use Rattle.disk_model.specs.declared.disk_file.DiskFile.TheVariants.{Output, One, Two}
use Rattle.disk_model.specs.Store.{Store, file_of}
use Rattle.image_format.specs.declared.header.Header.{Header}
use Rattle.image_format.specs.Image.{Image}
use Rattle.image_format.specs.Reading.{◌>>=◌}
use Rattle.image_chain.specs.Records.{Damage, Found, header_in, only_open, newer, records_at, newest_of, in_number, found_in, chain_in}
use Rattle.image_chain.specs.Append.{other}
use Rattle.image_chain.specs.Lists.{found_of}
use Rattle.image_chain.specs.Files.{records_found, records_in, IsOpenIn, FileLists, IsFoundIn}
use Rattle.image_chain.proofs.ListLaws.{current_is}

-- what is found in a file that lists records
pub found_lists : (f : DiskFile) (h : Header) (rs : List Image) (c : Store) (a : FileLists f h rs c) → found_in c (Some (f, h)) ≡ Ok (Some (record { file = f; header = h; records = rs }))
found_lists f h rs c a =
    ap (λ (x : Result (List Image) Damage). x >>= λ records. in_number f (h.generation + length records) (newest_of None records) >>= λ _. Ok (Some (record { file = f; header = h; records = records }))) a.read
    ∙ ap (λ (x : Result (Unit {0}) Damage). x >>= λ _. Ok (Some (record { file = f; header = h; records = rs }))) a.number

pub same_found : (x : Result (Option Found) Damage) (a b : Found) → x ≡ Ok (Some a) → x ≡ Ok (Some b) → a ≡ b
same_found x a b e f = cc

pub none_found : (x : Result (Option Found) Damage) (b : Found) → x ≡ Ok None → x ≡ Ok (Some b) → ⊥
none_found x b e f = cc

none_some : {h : Header} → None ≡ Some h → ⊥
none_some e = cc

some_is : {h k : Header} → Some h ≡ Some k → h ≡ k
some_is e = cc

-- a header that is open
pub open_is : (o : Option Header) (h : Header) → only_open o ≡ Some h → (o ≡ Some h) × (h.gate_open ≡ true)
open_is None h e = absurd (none_some e)
open_is (Some k) h e = by_gate k.gate_open refl e
  where
    by_gate : (b : Bool) → k.gate_open ≡ b → cond b (Some k) None ≡ Some h → (Some k ≡ Some h) × (h.gate_open ≡ true)
    by_gate true is e = (e, sym (ap (λ (x : Header). x.gate_open) (some_is e)) ∙ is)
    by_gate false is e = absurd (none_some e)

-- ---- what finding a chain says

bind_ok : {A B : Type 0} (x : Result A Damage) (k : A → Result B Damage) (y : B) → (x >>= k) ≡ Ok y → (a : A) × (x ≡ Ok a) × (k a ≡ Ok y)
bind_ok (Ok a) k y e = (a, refl, e)
bind_ok (Err d) k y e = absurd (let z : Err d ≡ Ok y = e in cc)

-- how the headers of a found chain stand
record Heads (c : Store) (one two : Option Header) (f : DiskFile) (h : Header) : Type 0 where
  first : header_in One c.one ≡ Ok one
  second : header_in Two c.two ≡ Ok two
  image_file : f ≢ Output
  open_in : IsOpenIn f h c
  aside : (k : Header) → IsOpenIn (other f) k c → k.generation < h.generation

same_header : (x : Result (Option Header) Damage) (o : Option Header) (k : Header) → x ≡ Ok o → x ≡ Ok (Some k) → o ≡ Some k
same_header x o k a b = cc

open_of : (o : Option Header) (k : Header) → o ≡ Some k → k.gate_open ≡ true → only_open o ≡ Some k
open_of o k e gate = ap only_open e ∙ ap (λ (b : Bool). cond b (Some k) None) gate

none_is_some : (k : Header) → None ≡ Some k → ⊥
none_is_some k e = cc

some_header : (h k : Header) → Some h ≡ Some k → h ≡ k
some_header h k e = cc

pair_is : (p q : DiskFile × Header) (x : Result (Option (DiskFile × Header)) Damage) → x ≡ Ok (Some p) → x ≡ Ok (Some q) → p ≡ q
pair_is p q x a b = cc

same_pair : (f g : DiskFile) (h k : Header) (x : Result (Option (DiskFile × Header)) Damage) → x ≡ Ok (Some (f, h)) → x ≡ Ok (Some (g, k)) → (f ≡ g) × (h ≡ k)
same_pair f g h k x a b = let e = pair_is (f, h) (g, k) x a b in (ap (λ (p : DiskFile × Header). p.0) e, ap (λ (p : DiskFile × Header). p.1) e)

none_pair : (f : DiskFile) (h : Header) (x : Result (Option (DiskFile × Header)) Damage) → x ≡ Ok None → x ≡ Ok (Some (f, h)) → ⊥
none_pair f h x a b = cc

bad_pair : (f : DiskFile) (h : Header) (d : Damage) (x : Result (Option (DiskFile × Header)) Damage) → x ≡ Err d → x ≡ Ok (Some (f, h)) → ⊥
bad_pair f h d x a b = cc

module _ (c : Store) (one two : Option Header) (first : header_in One c.one ≡ Ok one) (second : header_in Two c.two ≡ Ok two) where
  not_one : One ≢ Output
  not_one e = cc

  not_two : Two ≢ Output
  not_two e = cc

  in_one : (k : Header) → IsOpenIn One k c → only_open one ≡ Some k
  in_one k a = open_of one k (same_header (header_in One c.one) one k first a.header) a.gate

  in_two : (k : Header) → IsOpenIn Two k c → only_open two ≡ Some k
  in_two k a = open_of two k (same_header (header_in Two c.two) two k second a.header) a.gate

  is_one : (h : Header) → only_open one ≡ Some h → IsOpenIn One h c
  is_one h e = let o = open_is one h e in record { header = first ∙ ap (λ (x : Option Header). Ok x) o.0; gate = o.1 }

  is_two : (h : Header) → only_open two ≡ Some h → IsOpenIn Two h c
  is_two h e = let o = open_is two h e in record { header = second ∙ ap (λ (x : Option Header). Ok x) o.0; gate = o.1 }

  one_heads : (h : Header) → only_open one ≡ Some h → ((k : Header) → only_open two ≡ Some k → k.generation < h.generation) → Heads c one two One h
  one_heads h a less = record { first = first; second = second; image_file = not_one; open_in = is_one h a; aside = λ k b. less k (in_two k b) }

  two_heads : (k : Header) → only_open two ≡ Some k → ((h : Header) → only_open one ≡ Some h → h.generation < k.generation) → Heads c one two Two k
  two_heads k a less = record { first = first; second = second; image_file = not_two; open_in = is_two k a; aside = λ h b. less h (in_one h b) }

  there : (f g : DiskFile) (h k : Header) → Heads c one two g k → (f ≡ g) × (h ≡ k) → Heads c one two f h
  there f g h k a e = subst (λ (x : DiskFile). Heads c one two x h) (sym e.0) (subst (λ (x : Header). Heads c one two g x) (sym e.1) a)

  module _ (f : DiskFile) (h : Header) (is : newer (only_open one) (only_open two) ≡ Ok (Some (f, h))) where
    chosen : (x y : Option Header) → only_open one ≡ x → only_open two ≡ y → newer x y ≡ Ok (Some (f, h))
    chosen x y a b = sym (ap (λ (z : Option Header). newer z (only_open two)) a ∙ ap (λ (z : Option Header). newer x z) b) ∙ is

    by_generation : (a b : Header) → only_open one ≡ Some a → only_open two ≡ Some b → (p q : Bool) → (a.generation == b.generation) ≡ p → nat_lt b.generation a.generation ≡ q → Heads c one two f h
    by_generation a b x y true q e g = absurd (bad_pair f h (record { file = Two; place = 4 }) (newer (Some a) (Some b)) (rw e refl) (chosen (Some a) (Some b) x y))
    by_generation a b x y false true e g =
        there f One h a (one_heads a x (λ k z. subst (λ (m : Header). m.generation < a.generation) (some_header b k (sym y ∙ z)) (grind (arith, nat_tests, g))))
        (same_pair f One h a (newer (Some a) (Some b)) (chosen (Some a) (Some b) x y) (rw (e, g) refl))
    by_generation a b x y false false e g =
        there f Two h b (two_heads b y (λ k z. subst (λ (m : Header). m.generation < b.generation) (some_header a k (sym x ∙ z)) (grind (arith, nat_tests, e, g))))
        (same_pair f Two h b (newer (Some a) (Some b)) (chosen (Some a) (Some b) x y) (rw (e, g) refl))

    by_each : (x y : Option Header) → only_open one ≡ x → only_open two ≡ y → Heads c one two f h
    by_each None None a b = absurd (none_pair f h (newer None None) refl (chosen None None a b))
    by_each (Some k) None a b = there f One h k (one_heads k a (λ m z. absurd (none_is_some m (sym b ∙ z)))) (same_pair f One h k (newer (Some k) None) (chosen (Some k) None a b) refl)
    by_each None (Some k) a b = there f Two h k (two_heads k b (λ m z. absurd (none_is_some m (sym a ∙ z)))) (same_pair f Two h k (newer None (Some k)) (chosen None (Some k) a b) refl)
    by_each (Some a) (Some b) x y = by_generation a b x y (a.generation == b.generation) (nat_lt b.generation a.generation) refl refl

    heads : Heads c one two f h
    heads = by_each (only_open one) (only_open two) refl refl

-- the parts of a chain that was found
pub record Parts (c : Store) (found : Option Found) : Type 0 where
  one : Option Header
  two : Option Header
  first : header_in One c.one ≡ Ok one
  second : header_in Two c.two ≡ Ok two
  current : Option (DiskFile × Header)
  both : newer (only_open one) (only_open two) ≡ Ok current
  found_is : found_in c current ≡ Ok found

pub parts_of : (c : Store) (found : Option Found) → chain_in c ≡ Ok found → Parts c found
unfolding chain_in
parts_of c found is =
    let a = bind_ok (header_in One c.one) (λ one. header_in Two c.two >>= λ two. newer (only_open one) (only_open two) >>= λ current. found_in c current) found is in
    let b = bind_ok (header_in Two c.two) (λ two. newer (only_open a.0) (only_open two) >>= λ current. found_in c current) found a.2 in
    let d = bind_ok (newer (only_open a.0) (only_open b.0)) (λ current. found_in c current) found b.2 in
    record { one = a.0; two = b.0; first = a.1; second = b.1; current = d.0; both = d.1; found_is = d.2 }

is_found : (c : Store) (found : Found) → Parts c (Some found) → IsFoundIn c found
is_found c found p = by_current p.current refl
  where
    by_current : (o : Option (DiskFile × Header)) → p.current ≡ o → IsFoundIn c found
    by_current None e = absurd (none_found (found_in c p.current) found (ap (found_in c) e) p.found_is)
    by_current (Some x) e =
        let f = x.0 in
        let h = x.1 in
        let head = heads c p.one p.two p.first p.second f h (p.both ∙ ap (λ (o : Option (DiskFile × Header)). Ok o) e) in
        let read = bind_ok (records_at h.max f (file_of f c) None 15) (λ records. in_number f (h.generation + length records) (newest_of None records) >>= λ _. Ok (Some (record { file = f; header = h; records = records }))) (Some found) (sym (ap (found_in c) e) ∙ p.found_is) in
        let number = bind_ok (in_number f (h.generation + length read.0) (newest_of None read.0)) (λ _. Ok (Some (record { file = f; header = h; records = read.0 }))) (Some found) read.2 in
        let here : Found = record { file = f; header = h; records = read.0 } in
        subst (λ (y : Found). IsFoundIn c y) (same_found (Ok (Some here)) here found refl number.2) (record {
          image_file = head.image_file;
          lists = record { open_in = head.open_in; read = read.1; number = number.1 };
          aside = head.aside;
          headers = each_header;
        })
      where
        each_header : (f : DiskFile) → f ≢ Output → (h : Option Header) × (header_in f (file_of f c) ≡ Ok h)
        each_header Output not = absurd (not refl)
        each_header One not = (p.one, p.first)
        each_header Two not = (p.two, p.second)

pub found_there : (c : Store) (found : Found) → chain_in c ≡ Ok (Some found) → IsFoundIn c found
found_there c found is = is_found c found (parts_of c (Some found) is)

-- ---- and what stands so is found

newer_is_one : (h : Header) (o : Option Header) → ((k : Header) → o ≡ Some k → k.generation < h.generation) → newer (Some h) o ≡ Ok (Some (One, h))
newer_is_one h None less = refl
newer_is_one h (Some k) less =
    let lt = less k refl in
    let same : (h.generation == k.generation) ≡ false = grind (arith, nat_tests) in
    let older : nat_lt k.generation h.generation ≡ true = grind (arith, nat_tests) in
    rw (same, older) refl

newer_is_two : (h : Header) (o : Option Header) → ((k : Header) → o ≡ Some k → k.generation < h.generation) → newer o (Some h) ≡ Ok (Some (Two, h))
newer_is_two h None less = refl
newer_is_two h (Some k) less =
    let lt = less k refl in
    let same : (k.generation == h.generation) ≡ false = grind (arith, nat_tests) in
    let older : nat_lt h.generation k.generation ≡ false = grind (arith, nat_tests) in
    rw (same, older) refl

found_by : (f : DiskFile) (h : Header) (rs : List Image) (s : Store) → IsFoundIn s (record { file = f; header = h; records = rs }) → chain_in s ≡ Ok (Some (record { file = f; header = h; records = rs }))
found_by Output h rs s it = absurd (it.image_file refl)
found_by One h rs s it =
    let a = it.lists.open_in in
    let two = it.headers Two (λ e. cc) in
    let mine : only_open (Some h) ≡ Some h = open_of (Some h) h refl a.gate in
    let both = newer_is_one h (only_open two.0) (λ k e. it.aside k (is_two s (Some h) two.0 a.header two.1 k e)) in
    current_is s (Some h) two.0 (Some (One, h)) a.header two.1 (ap (λ (x : Option Header). newer x (only_open two.0)) mine ∙ both) ∙ found_lists One h rs s it.lists
found_by Two h rs s it =
    let a = it.lists.open_in in
    let one = it.headers One (λ e. cc) in
    let mine : only_open (Some h) ≡ Some h = open_of (Some h) h refl a.gate in
    let both = newer_is_two h (only_open one.0) (λ k e. it.aside k (is_one s one.0 (Some h) one.1 a.header k e)) in
    current_is s one.0 (Some h) (Some (Two, h)) one.1 a.header (ap (λ (x : Option Header). newer (only_open one.0) x) mine ∙ both) ∙ found_lists Two h rs s it.lists

pub there_found : (s : Store) (found : Found) → IsFoundIn s found → chain_in s ≡ Ok (Some found)
there_found s found it = found_by found.file found.header found.records s it

pub records_listed : (s : Store) (f : DiskFile) (h : Header) (rs : List Image) → chain_in s ≡ Ok (found_of f h rs) → records_in s ≡ rs
records_listed s f h [] is = ap records_found is
records_listed s f h (r ∷ rs) is = ap records_found is
