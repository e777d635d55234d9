-- What finding a chain says of the files of a store.
use Rattle.std.proofs.Common.{◌≡◌, ◌≢◌, refl, sym, ◌∙◌, ap, subst, ℕ, ◌+◌, ◌<◌, Bool, true, false, cond, ◌==◌, nat_lt, inl, inr, ◌⊎◌, List, length, Option, Some, None, Result, Ok, Err, arith}
use Rattle.std.proofs.lemmas.Bool.Decides.{nat_tests}
use Rattle.disk_model.specs.declared.disk_file.DiskFile.{DiskFile}
use Rattle.disk_model.specs.declared.disk_file.DiskFile.TheVariants.{Output, One, Two}
use Rattle.disk_model.specs.Store.{Store, file_of}
use Rattle.image_format.specs.declared.header.Header.{Header}
use Rattle.image_format.specs.Image.{Image}
use Rattle.image_format.specs.Reading.{◌>>=◌}
use Rattle.image_chain.specs.Append.{other}
use Rattle.image_chain.specs.Records.{Damage, Found, header_in, only_open, newer, records_at, newest_of, in_number, found_in, chain_in}
use Rattle.run_images.specs.Source.{Source}
use Rattle.run_images.specs.Stands.{StandsWithin}
use Rattle.image_chain.specs.Files.{IsOpenIn, FileLists}
use Rattle.run_images.proofs.Outcomes.{IsFoundIn}
use Rattle.run_images.proofs.StandLaws.{open_is, none_found, same_found}

bind_ok : {A B : Type 0} (x : Result A Damage) (k : A → Result B Damage) (y : B) → (x >>= k) ≡ Ok y → (a : A) × (x ≡ Ok a) × (k a ≡ Ok y)
bind_ok (Ok a) k y e = (a, refl, e)
bind_ok (Err d) k y e = absurd (let z : Err d ≡ Ok y = e in cc)

-- how the headers of a found chain stand
pub record Heads (c : Store) (one two : Option Header) (f : DiskFile) (h : Header) : Type 0 where
  pub first : header_in One c.one ≡ Ok one
  pub second : header_in Two c.two ≡ Ok two
  pub image_file : f ≢ Output
  pub open_in : IsOpenIn f h c
  pub aside : (k : Header) → IsOpenIn (other f) k c → k.generation < h.generation

same_header : (x : Result (Option Header) Damage) (o : Option Header) (k : Header) → x ≡ Ok o → x ≡ Ok (Some k) → o ≡ Some k
same_header x o k a b = cc

open_of : (o : Option Header) (k : Header) → o ≡ Some k → k.gate_open ≡ true → only_open o ≡ Some k
open_of o k e gate = ap only_open e ∙ ap (λ (b : Bool). cond b (Some k) None) gate

none_is_some : (k : Header) → None ≡ Some k → ⊥
none_is_some k e = cc

some_header : (h k : Header) → Some h ≡ Some k → h ≡ k
some_header h k e = cc

pair_is : (p q : DiskFile × Header) (x : Result (Option (DiskFile × Header)) Damage) → x ≡ Ok (Some p) → x ≡ Ok (Some q) → p ≡ q
pair_is p q x a b = cc

same_pair : (f g : DiskFile) (h k : Header) (x : Result (Option (DiskFile × Header)) Damage) → x ≡ Ok (Some (f, h)) → x ≡ Ok (Some (g, k)) → (f ≡ g) × (h ≡ k)
same_pair f g h k x a b = let e = pair_is (f, h) (g, k) x a b in (ap (λ (p : DiskFile × Header). p.0) e, ap (λ (p : DiskFile × Header). p.1) e)

none_pair : (f : DiskFile) (h : Header) (x : Result (Option (DiskFile × Header)) Damage) → x ≡ Ok None → x ≡ Ok (Some (f, h)) → ⊥
none_pair f h x a b = cc

bad_pair : (f : DiskFile) (h : Header) (d : Damage) (x : Result (Option (DiskFile × Header)) Damage) → x ≡ Err d → x ≡ Ok (Some (f, h)) → ⊥
bad_pair f h d x a b = cc

module _ (c : Store) (one two : Option Header) (first : header_in One c.one ≡ Ok one) (second : header_in Two c.two ≡ Ok two) where
  not_one : One ≢ Output
  not_one e = cc

  not_two : Two ≢ Output
  not_two e = cc

  in_one : (k : Header) → IsOpenIn One k c → only_open one ≡ Some k
  in_one k a = open_of one k (same_header (header_in One c.one) one k first a.header) a.gate

  in_two : (k : Header) → IsOpenIn Two k c → only_open two ≡ Some k
  in_two k a = open_of two k (same_header (header_in Two c.two) two k second a.header) a.gate

  is_one : (h : Header) → only_open one ≡ Some h → IsOpenIn One h c
  is_one h e = let o = open_is one h e in record { header = first ∙ ap (λ (x : Option Header). Ok x) o.0; gate = o.1 }

  is_two : (h : Header) → only_open two ≡ Some h → IsOpenIn Two h c
  is_two h e = let o = open_is two h e in record { header = second ∙ ap (λ (x : Option Header). Ok x) o.0; gate = o.1 }

  one_heads : (h : Header) → only_open one ≡ Some h → ((k : Header) → only_open two ≡ Some k → k.generation < h.generation) → Heads c one two One h
  one_heads h a less = record { first = first; second = second; image_file = not_one; open_in = is_one h a; aside = λ k b. less k (in_two k b) }

  two_heads : (k : Header) → only_open two ≡ Some k → ((h : Header) → only_open one ≡ Some h → h.generation < k.generation) → Heads c one two Two k
  two_heads k a less = record { first = first; second = second; image_file = not_two; open_in = is_two k a; aside = λ h b. less h (in_one h b) }

  there : (f g : DiskFile) (h k : Header) → Heads c one two g k → (f ≡ g) × (h ≡ k) → Heads c one two f h
  there f g h k a e = subst (λ (x : DiskFile). Heads c one two x h) (sym e.0) (subst (λ (x : Header). Heads c one two g x) (sym e.1) a)

  module _ (f : DiskFile) (h : Header) (is : newer (only_open one) (only_open two) ≡ Ok (Some (f, h))) where
    chosen : (x y : Option Header) → only_open one ≡ x → only_open two ≡ y → newer x y ≡ Ok (Some (f, h))
    chosen x y a b = sym (ap (λ (z : Option Header). newer z (only_open two)) a ∙ ap (λ (z : Option Header). newer x z) b) ∙ is

    by_generation : (a b : Header) → only_open one ≡ Some a → only_open two ≡ Some b → (p q : Bool) → (a.generation == b.generation) ≡ p → nat_lt b.generation a.generation ≡ q → Heads c one two f h
    by_generation a b x y true q e g = absurd (bad_pair f h (record { file = Two; place = 4 }) (newer (Some a) (Some b)) (rw e refl) (chosen (Some a) (Some b) x y))
    by_generation a b x y false true e g =
        there f One h a (one_heads a x (λ k z. subst (λ (m : Header). m.generation < a.generation) (some_header b k (sym y ∙ z)) (grind (arith, nat_tests, g))))
        (same_pair f One h a (newer (Some a) (Some b)) (chosen (Some a) (Some b) x y) (rw (e, g) refl))
    by_generation a b x y false false e g =
        there f Two h b (two_heads b y (λ k z. subst (λ (m : Header). m.generation < b.generation) (some_header a k (sym x ∙ z)) (grind (arith, nat_tests, e, g))))
        (same_pair f Two h b (newer (Some a) (Some b)) (chosen (Some a) (Some b) x y) (rw (e, g) refl))

    by_each : (x y : Option Header) → only_open one ≡ x → only_open two ≡ y → Heads c one two f h
    by_each None None a b = absurd (none_pair f h (newer None None) refl (chosen None None a b))
    by_each (Some k) None a b = there f One h k (one_heads k a (λ m z. absurd (none_is_some m (sym b ∙ z)))) (same_pair f One h k (newer (Some k) None) (chosen (Some k) None a b) refl)
    by_each None (Some k) a b = there f Two h k (two_heads k b (λ m z. absurd (none_is_some m (sym a ∙ z)))) (same_pair f Two h k (newer None (Some k)) (chosen None (Some k) a b) refl)
    by_each (Some a) (Some b) x y = by_generation a b x y (a.generation == b.generation) (nat_lt b.generation a.generation) refl refl

    pub heads : Heads c one two f h
    heads = by_each (only_open one) (only_open two) refl refl

-- the parts of a chain that was found
pub record Parts (c : Store) (found : Option Found) : Type 0 where
  pub one : Option Header
  pub two : Option Header
  pub first : header_in One c.one ≡ Ok one
  pub second : header_in Two c.two ≡ Ok two
  pub current : Option (DiskFile × Header)
  pub both : newer (only_open one) (only_open two) ≡ Ok current
  pub found_is : found_in c current ≡ Ok found

pub parts_of : (c : Store) (found : Option Found) → chain_in c ≡ Ok found → Parts c found
unfolding chain_in
parts_of c found is =
    let a = bind_ok (header_in One c.one) (λ one. header_in Two c.two >>= λ two. newer (only_open one) (only_open two) >>= λ current. found_in c current) found is in
    let b = bind_ok (header_in Two c.two) (λ two. newer (only_open a.0) (only_open two) >>= λ current. found_in c current) found a.2 in
    let d = bind_ok (newer (only_open a.0) (only_open b.0)) (λ current. found_in c current) found b.2 in
    record { one = a.0; two = b.0; first = a.1; second = b.1; current = d.0; both = d.1; found_is = d.2 }

is_found : (c : Store) (found : Found) → Parts c (Some found) → IsFoundIn c found
is_found c found p = by_current p.current refl
  where
    by_current : (o : Option (DiskFile × Header)) → p.current ≡ o → IsFoundIn c found
    by_current None e = absurd (none_found (found_in c p.current) found (ap (found_in c) e) p.found_is)
    by_current (Some x) e =
        let f = x.0 in
        let h = x.1 in
        let head = heads c p.one p.two p.first p.second f h (p.both ∙ ap (λ (o : Option (DiskFile × Header)). Ok o) e) in
        let read = bind_ok (records_at h.max f (file_of f c) None 15) (λ records. in_number f (h.generation + length records) (newest_of None records) >>= λ _. Ok (Some (record { file = f; header = h; records = records }))) (Some found) (sym (ap (found_in c) e) ∙ p.found_is) in
        let number = bind_ok (in_number f (h.generation + length read.0) (newest_of None read.0)) (λ _. Ok (Some (record { file = f; header = h; records = read.0 }))) (Some found) read.2 in
        let here : Found = record { file = f; header = h; records = read.0 } in
        subst (λ (y : Found). IsFoundIn c y) (same_found (Ok (Some here)) here found refl number.2) (record {
          image_file = head.image_file;
          lists = record { open_in = head.open_in; read = read.1; number = number.1 };
          aside = head.aside;
          headers = each_header;
        })
      where
        each_header : (f : DiskFile) → f ≢ Output → (h : Option Header) × (header_in f (file_of f c) ≡ Ok h)
        each_header Output not = absurd (not refl)
        each_header One not = (p.one, p.first)
        each_header Two not = (p.two, p.second)

pub found_there : (c : Store) (found : Found) → chain_in c ≡ Ok (Some found) → IsFoundIn c found
found_there c found is = is_found c found (parts_of c (Some found) is)

-- ---- files

pub other_not : (f : DiskFile) → f ≢ Output → other f ≢ Output
other_not Output not e = absurd (not refl)
other_not One not e = absurd (let z : Two ≡ Output = e in cc)
other_not Two not e = absurd (let z : One ≡ Output = e in cc)

-- an image file is this one or the other
pub this_or_other : (f g : DiskFile) → f ≢ Output → g ≢ Output → (g ≡ f) ⊎ (g ≡ other f)
this_or_other Output g nf ng = absurd (nf refl)
this_or_other f Output nf ng = absurd (ng refl)
this_or_other One One nf ng = inl refl
this_or_other One Two nf ng = inr refl
this_or_other Two One nf ng = inr refl
this_or_other Two Two nf ng = inl refl

pub same_open : (f : DiskFile) (h k : Header) (c : Store) → IsOpenIn f h c → IsOpenIn f k c → h ≡ k
same_open f h k c a b = header_is (header_in f (file_of f c)) a.header b.header
  where
    header_is : (x : Result (Option Header) Damage) → x ≡ Ok (Some h) → x ≡ Ok (Some k) → h ≡ k
    header_is x p q = cc

records_are : (x : Result (List Image) Damage) (rs qs : List Image) → x ≡ Ok rs → x ≡ Ok qs → rs ≡ qs
records_are x rs qs p q = cc

pub same_lists : (f : DiskFile) (h k : Header) (rs qs : List Image) (c : Store) → FileLists f h rs c → FileLists f k qs c → (h ≡ k) × (rs ≡ qs)
same_lists f h k rs qs c a b =
    let e = same_open f h k c a.open_in b.open_in in
    (e, records_are (records_at k.max f (file_of f c) None 15) rs qs (subst (λ (m : Header). records_at m.max f (file_of f c) None 15 ≡ Ok rs) e a.read) b.read)

-- where no chain is found no file is open
pub none_open_in : (c : Store) (g : DiskFile) (k : Header) → g ≢ Output → Parts c None → IsOpenIn g k c → ⊥
none_open_in c g k ng p a = by_current p.current refl
  where
    by_file : (x y : Option Header) → only_open p.one ≡ x → only_open p.two ≡ y → newer x y ≡ Ok None → (g : DiskFile) → g ≢ Output → IsOpenIn g k c → ⊥
    by_file None None x y e Output ng a = ng refl
    by_file None None x y e One ng a = none_is_some k (sym x ∙ in_one c p.one p.two p.first p.second k a)
    by_file None None x y e Two ng a = none_is_some k (sym y ∙ in_two c p.one p.two p.first p.second k a)
    by_file (Some m) None x y e g ng a = none_pair One m (Ok (Some (One, m))) e refl
    by_file None (Some m) x y e g ng a = none_pair Two m (Ok (Some (Two, m))) e refl
    by_file (Some l) (Some m) x y e g ng a = by_order (l.generation == m.generation) (nat_lt m.generation l.generation) refl refl
      where
        by_order : (u v : Bool) → (l.generation == m.generation) ≡ u → nat_lt m.generation l.generation ≡ v → ⊥
        by_order true v q r = bad_none (newer (Some l) (Some m)) (rw q refl) e
          where
            bad_none : (z : Result (Option (DiskFile × Header)) Damage) → z ≡ Err (record { file = Two; place = 4 }) → z ≡ Ok None → ⊥
            bad_none z i j = cc
        by_order false true q r = none_pair One l (newer (Some l) (Some m)) e (rw (q, r) refl)
        by_order false false q r = none_pair Two m (newer (Some l) (Some m)) e (rw (q, r) refl)

    by_current : (o : Option (DiskFile × Header)) → p.current ≡ o → ⊥
    by_current None e = by_file (only_open p.one) (only_open p.two) refl refl (p.both ∙ ap (λ (o : Option (DiskFile × Header)). Ok o) e) g ng a
    by_current (Some x) e =
        let f = x.0 in
        let h = x.1 in
        let read = bind_ok (records_at h.max f (file_of f c) None 15) (λ records. in_number f (h.generation + length records) (newest_of None records) >>= λ _. Ok (Some (record { file = f; header = h; records = records }))) None (sym (ap (found_in c) e) ∙ p.found_is) in
        let number = bind_ok (in_number f (h.generation + length read.0) (newest_of None read.0)) (λ _. Ok (Some (record { file = f; header = h; records = read.0 }))) None read.2 in
        none_found (Ok None) (record { file = f; header = h; records = read.0 }) refl (sym number.2)

-- a store without a chain stands for every source
pub chainless_stands : (s : Source) (n : ℕ) (c : Store) → chain_in c ≡ Ok None → StandsWithin s n c
chainless_stands s n c is =
    let p = parts_of c None is in
    record {
      stands = record {
        headers = each_header p;
        differ = λ a b x y. absurd (none_open_in c One a (λ e. cc) p x);
        each = λ g k ng x. absurd (none_open_in c g k ng p x);
        order = λ a b k m ps qs x y na nb u v. absurd (none_open_in c a k na p u.open_in);
      };
      within = λ g k ps x ng u. absurd (none_open_in c g k ng p u.open_in);
    }
  where
    each_header : Parts c None → (f : DiskFile) → f ≢ Output → (h : Option Header) × (header_in f (file_of f c) ≡ Ok h)
    each_header p Output not = absurd (not refl)
    each_header p One not = (p.one, p.first)
    each_header p Two not = (p.two, p.second)
