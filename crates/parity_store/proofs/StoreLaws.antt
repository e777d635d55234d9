-- The current file of a store.
use Rattle.std.proofs.Common.{◌≡◌, ◌≢◌, ◌⊎◌, inl, inr, ⊎_elim, refl, sym, ◌∙◌, ap, subst, ℕ, ◌<◌, ◌==◌, nat_lt, Bool, true, false, cond, List, ◌∷◌, ◌++◌, Option, Some, None, Result, Ok, Err, arith}
use Rattle.std.proofs.lemmas.Bool.Decides.{nat_tests}
use Rattle.disk_model.specs.declared.disk_file.DiskFile.{DiskFile}
use Rattle.disk_model.specs.declared.disk_file.DiskFile.TheVariants.{Output, One, Two}
use Rattle.disk_model.specs.Store.{Store, file_of}
use Rattle.parity_store.specs.declared.header.PoolHeader.{PoolHeader}
use Rattle.parity_store.specs.declared.fault.PoolFault.{PoolFault}
use Rattle.parity_store.specs.declared.fault.PoolFault.TheVariants.{Failed, Damaged}
use Rattle.parity_store.specs.Layout.{IsPoolHeader, pool_head}
use Rattle.parity_store.specs.Pools.{◌>>=◌, Damage, pool_header_in, only_open, newer, pool_text_in, found_in, current_in, pool_in, IsPoolDamage, other, IsAside}
use Rattle.parity_store.proofs.HeaderLaws.{with_gate, header_back, shut_gate}

abbrev Read : Type 0
Read = Result (Option PoolHeader) Damage

abbrev Found : Type 0
Found = Option (DiskFile × PoolHeader)

pub ok_step : {A B : Type 0} (r : Result A Damage) (f : A → Result B Damage) (y : B) → (r >>= f) ≡ Ok y → (x : A) × (r ≡ Ok x) × (f x ≡ Ok y)
ok_step (Ok x) f y e = (x, refl, e)
ok_step (Err d) f y e = absurd cc

-- ---- reading the headers

pub current_is : (s : Store) (one two : Option PoolHeader) → pool_header_in One s.one ≡ Ok one → pool_header_in Two s.two ≡ Ok two → current_in s ≡ newer (only_open one) (only_open two)
unfolding current_in
current_is s one two first second =
    ap (λ (x : Read). x >>= λ one. pool_header_in Two s.two >>= λ two. newer (only_open one) (only_open two)) first
    ∙ ap (λ (x : Read). x >>= λ two. newer (only_open one) (only_open two)) second

pub one_damage : (s : Store) (e : PoolFault) → IsPoolDamage e (pool_header_in One s.one) → IsPoolDamage e (current_in s)
unfolding current_in
one_damage s Failed is = tt
one_damage s (Damaged f place) is = ap (λ (x : Read). x >>= λ one. pool_header_in Two s.two >>= λ two. newer (only_open one) (only_open two)) is

pub two_damage : (s : Store) (one : Option PoolHeader) (e : PoolFault) → pool_header_in One s.one ≡ Ok one → IsPoolDamage e (pool_header_in Two s.two) → IsPoolDamage e (current_in s)
unfolding current_in
two_damage s one Failed first is = tt
two_damage s one (Damaged f place) first is =
    ap (λ (x : Read). x >>= λ one. pool_header_in Two s.two >>= λ two. newer (only_open one) (only_open two)) first
    ∙ ap (λ (x : Read). x >>= λ two. newer (only_open one) (only_open two)) is

pub both_damage : (s : Store) (one two : Option PoolHeader) (e : PoolFault) → pool_header_in One s.one ≡ Ok one → pool_header_in Two s.two ≡ Ok two → IsPoolDamage e (newer (only_open one) (only_open two)) → IsPoolDamage e (current_in s)
both_damage s one two Failed first second is = tt
both_damage s one two (Damaged f place) first second is = current_is s one two first second ∙ is

pub second_is : (s mid : Store) (two : Option PoolHeader) → mid ≡ s → pool_header_in Two mid.two ≡ Ok two → pool_header_in Two s.two ≡ Ok two
second_is s mid two same is = ap (λ (x : Store). pool_header_in Two x.two) (sym same) ∙ is

pub second_damage : (s mid : Store) (e : PoolFault) → mid ≡ s → IsPoolDamage e (pool_header_in Two mid.two) → IsPoolDamage e (pool_header_in Two s.two)
second_damage s mid e same is = subst (λ (x : Store). IsPoolDamage e (pool_header_in Two x.two)) same is

-- ---- the whole store

pub pool_is : (s : Store) (current : Found) → current_in s ≡ Ok current → pool_in s ≡ found_in s current
unfolding pool_in
pool_is s current is = ap (λ (x : Result Found Damage). x >>= λ current. found_in s current) is

pub current_damage : (s : Store) (e : PoolFault) → IsPoolDamage e (current_in s) → IsPoolDamage e (pool_in s)
unfolding pool_in
current_damage s Failed is = tt
current_damage s (Damaged f place) is = ap (λ (x : Result Found Damage). x >>= λ current. found_in s current) is

pub text_damage : (s : Store) (c : DiskFile × PoolHeader) (e : PoolFault) → current_in s ≡ Ok (Some c) → IsPoolDamage e (pool_text_in c.0 c.1 (file_of c.0 s)) → IsPoolDamage e (pool_in s)
text_damage s c Failed first is = tt
text_damage s c (Damaged f place) first is = pool_is s (Some c) first ∙ ap (λ (x : Result (Unit {0}) Damage). x >>= λ _. Ok (Some c)) is

pub text_good : (s : Store) (c : DiskFile × PoolHeader) → current_in s ≡ Ok (Some c) → pool_text_in c.0 c.1 (file_of c.0 s) ≡ Ok tt → pool_in s ≡ Ok (Some c)
text_good s c first is = pool_is s (Some c) first ∙ ap (λ (x : Result (Unit {0}) Damage). x >>= λ _. Ok (Some c)) is

-- ---- which file is current

-- the current file, and that the other one is aside
pub record IsCurrent (s : Store) (c : DiskFile × PoolHeader) : Type 0 where
  pub image_file : c.0 ≢ Output
  pub opened : c.1.gate_open ≡ true
  pub header : pool_header_in c.0 (file_of c.0 s) ≡ Ok (Some c.1)
  pub aside : IsAside (other c.0) c.1.generation (file_of (other c.0) s)

only_some : (o : Option PoolHeader) (h : PoolHeader) → only_open o ≡ Some h → (o ≡ Some h) × (h.gate_open ≡ true)
only_some None h is = absurd cc
only_some (Some k) h is = by_gate k.gate_open refl is
  where
    by_gate : (b : Bool) → k.gate_open ≡ b → cond b (Some k) None ≡ Some h → (Some k ≡ Some h) × (h.gate_open ≡ true)
    by_gate true e is = (is, (let same : k ≡ h = cc in sym (ap (λ (x : PoolHeader). x.gate_open) same) ∙ e))
    by_gate false e is = absurd cc

pub not_open : (o : Option PoolHeader) → only_open o ≡ None → (h : PoolHeader) → o ≡ Some h → h.gate_open ≡ true → ⊥
not_open o none h is opened = contra (sym none ∙ ap only_open is ∙ ap (λ (b : Bool). cond b (Some h) None) opened)
  where
    contra : None ≡ Some h → ⊥
    contra e = cc

closed_older : (o : Option PoolHeader) → only_open o ≡ None → (generation : ℕ) (h : PoolHeader) → o ≡ Some h → h.gate_open ≡ true → h.generation < generation
closed_older o none generation h is opened = absurd (not_open o none h is opened)

is_older : (o : Option PoolHeader) (k : PoolHeader) → only_open o ≡ Some k → (generation : ℕ) → k.generation < generation → (h : PoolHeader) → o ≡ Some h → h.gate_open ≡ true → h.generation < generation
is_older o k some generation less h is opened = subst (λ (x : PoolHeader). x.generation < generation) (sym same) less
  where
    both : Some k ≡ Some h
    both = sym some ∙ ap only_open is ∙ ap (λ (b : Bool). cond b (Some h) None) opened

    same : h ≡ k
    same = cc both

abbrev chosen : DiskFile → PoolHeader → Result Found Damage
chosen f h = Ok (Some (f, h))

abbrev picked : DiskFile × PoolHeader → Result Found Damage
picked c = Ok (Some c)

-- the choice between two open headers
by_generation : (a b : PoolHeader) (c : DiskFile × PoolHeader) → newer (Some a) (Some b) ≡ picked c → ((b.generation < a.generation) × ((One, a) ≡ c)) ⊎ ((a.generation < b.generation) × ((Two, b) ≡ c))
by_generation a b c is = by_tests (a.generation == b.generation) (nat_lt b.generation a.generation) refl refl is
  where
    by_tests : (t u : Bool) → (a.generation == b.generation) ≡ t → nat_lt b.generation a.generation ≡ u → cond t (Err (record { file = Two; place = 4 })) (cond u (chosen One a) (chosen Two b)) ≡ picked c → ((b.generation < a.generation) × ((One, a) ≡ c)) ⊎ ((a.generation < b.generation) × ((Two, b) ≡ c))
    by_tests true u s t is = absurd cc
    by_tests false true s t is = inl (grind (arith, nat_tests), cc)
    by_tests false false s t is = inr (grind (arith, nat_tests), cc)

pub one_image : One ≢ Output
one_image e = cc

pub two_image : Two ≢ Output
two_image e = cc

one_current : (s : Store) (one two : Option PoolHeader) (a : PoolHeader) (c : DiskFile × PoolHeader) → pool_header_in One s.one ≡ Ok one → pool_header_in Two s.two ≡ Ok two → only_open one ≡ Some a → (One, a) ≡ c → ((h : PoolHeader) → two ≡ Some h → h.gate_open ≡ true → h.generation < a.generation) → IsCurrent s c
one_current s one two a c first second ea same older =
    let o = only_some one a ea in
    subst (IsCurrent s) same (record { image_file = one_image; opened = o.1; header = first ∙ ap (λ (x : Option PoolHeader). Ok x) o.0; aside = record { header = two; is = second; older = older } })

two_current : (s : Store) (one two : Option PoolHeader) (b : PoolHeader) (c : DiskFile × PoolHeader) → pool_header_in One s.one ≡ Ok one → pool_header_in Two s.two ≡ Ok two → only_open two ≡ Some b → (Two, b) ≡ c → ((h : PoolHeader) → one ≡ Some h → h.gate_open ≡ true → h.generation < b.generation) → IsCurrent s c
two_current s one two b c first second eb same older =
    let o = only_some two b eb in
    subst (IsCurrent s) same (record { image_file = two_image; opened = o.1; header = second ∙ ap (λ (x : Option PoolHeader). Ok x) o.0; aside = record { header = one; is = first; older = older } })

by_open : (s : Store) (one two : Option PoolHeader) (c : DiskFile × PoolHeader) (a b : Option PoolHeader) → pool_header_in One s.one ≡ Ok one → pool_header_in Two s.two ≡ Ok two → only_open one ≡ a → only_open two ≡ b → newer a b ≡ picked c → IsCurrent s c
by_open s one two c None None first second ea eb is = absurd cc
by_open s one two c (Some a) None first second ea eb is = (let same : (One, a) ≡ c = cc in one_current s one two a c first second ea same (closed_older two eb a.generation))
by_open s one two c None (Some b) first second ea eb is = (let same : (Two, b) ≡ c = cc in two_current s one two b c first second eb same (closed_older one ea b.generation))
by_open s one two c (Some a) (Some b) first second ea eb is = ⊎_elim
    (λ left. one_current s one two a c first second ea left.1 (is_older two b eb a.generation left.0))
    (λ right. two_current s one two b c first second eb right.1 (is_older one a ea b.generation right.0))
    (by_generation a b c is)

pub current_of : (s : Store) (c : DiskFile × PoolHeader) → current_in s ≡ Ok (Some c) → IsCurrent s c
unfolding current_in
current_of s c is =
    let a = ok_step (pool_header_in One s.one) (λ one. pool_header_in Two s.two >>= λ two. newer (only_open one) (only_open two)) (Some c) is in
    let b = ok_step (pool_header_in Two s.two) (λ two. newer (only_open a.0) (only_open two)) (Some c) a.2 in
    by_open s a.0 b.0 c (only_open a.0) (only_open b.0) a.1 b.1 refl refl b.2

-- ---- a store of which one file is current

record IsOlder (o : Option PoolHeader) (generation : ℕ) : Type 0 where
  pub header : PoolHeader
  pub is : o ≡ Some header
  pub older : header.generation < generation

-- the other file's header, as far as it is open
aside_open : (o : Option PoolHeader) (generation : ℕ) → ((h : PoolHeader) → o ≡ Some h → h.gate_open ≡ true → h.generation < generation) → (only_open o ≡ None) ⊎ IsOlder (only_open o) generation
aside_open None generation older = inl refl
aside_open (Some h) generation older = by_gate h.gate_open refl
  where
    by_gate : (b : Bool) → h.gate_open ≡ b → (only_open (Some h) ≡ None) ⊎ IsOlder (only_open (Some h)) generation
    by_gate true is = inr (record { header = h; is = ap (λ (b : Bool). cond b (Some h) None) is; older = older h refl is })
    by_gate false is = inl (ap (λ (b : Bool). cond b (Some h) None) is)

newer_one : (h : PoolHeader) (o : Option PoolHeader) → (o ≡ None) ⊎ IsOlder o h.generation → newer (Some h) o ≡ Ok (Some (One, h))
newer_one h o (inl none) = ap (newer (Some h)) none
newer_one h o (inr older) =
    let lt = older.older in
    let same : (h.generation == older.header.generation) ≡ false = grind (arith, nat_tests) in
    let less : nat_lt older.header.generation h.generation ≡ true = grind (arith, nat_tests) in
    ap (newer (Some h)) older.is ∙ rw (same, less) refl

newer_two : (h : PoolHeader) (o : Option PoolHeader) → (o ≡ None) ⊎ IsOlder o h.generation → newer o (Some h) ≡ Ok (Some (Two, h))
newer_two h o (inl none) = ap (λ (x : Option PoolHeader). newer x (Some h)) none
newer_two h o (inr older) =
    let lt = older.older in
    let same : (older.header.generation == h.generation) ≡ false = grind (arith, nat_tests) in
    let less : nat_lt h.generation older.header.generation ≡ false = grind (arith, nat_tests) in
    ap (λ (x : Option PoolHeader). newer x (Some h)) older.is ∙ rw (same, less) refl

open_header : (h : PoolHeader) → h.gate_open ≡ true → only_open (Some h) ≡ Some h
open_header h is = ap (λ (b : Bool). cond b (Some h) None) is

pub current_with : (f : DiskFile) (h : PoolHeader) (s : Store) → f ≢ Output → h.gate_open ≡ true → pool_header_in f (file_of f s) ≡ Ok (Some h) → IsAside (other f) h.generation (file_of (other f) s) → current_in s ≡ Ok (Some (f, h))
current_with Output h s image_file opened is aside = absurd (image_file refl)
current_with One h s image_file opened is aside =
    current_is s (Some h) aside.header is aside.is
    ∙ ap (λ (x : Option PoolHeader). newer x (only_open aside.header)) (open_header h opened)
    ∙ newer_one h (only_open aside.header) (aside_open aside.header h.generation aside.older)
current_with Two h s image_file opened is aside =
    current_is s aside.header (Some h) aside.is is
    ∙ ap (newer (only_open aside.header)) (open_header h opened)
    ∙ newer_two h (only_open aside.header) (aside_open aside.header h.generation aside.older)

-- ---- a store without a pool

some_not_none : (c : DiskFile × PoolHeader) → picked c ≡ Ok None → ⊥
some_not_none c e = cc

none_current : (s : Store) (c : Found) → found_in s c ≡ Ok None → c ≡ None
none_current s None is = refl
none_current s (Some c) is =
    let a = ok_step (pool_text_in c.0 c.1 (file_of c.0 s)) (λ _. Ok (Some c)) None is in
    absurd (some_not_none c a.2)

two_closed : (one two : Option PoolHeader) → newer one two ≡ Ok None → (one ≡ None) × (two ≡ None)
two_closed None None is = (refl, refl)
two_closed (Some a) None is = absurd (some_not_none (One, a) is)
two_closed None (Some b) is = absurd (some_not_none (Two, b) is)
two_closed (Some a) (Some b) is = absurd (by_tests (a.generation == b.generation) (nat_lt b.generation a.generation) is)
  where
    by_tests : (t u : Bool) → cond t (Err (record { file = Two; place = 4 })) (cond u (chosen One a) (chosen Two b)) ≡ Ok None → ⊥
    by_tests true u e = cc
    by_tests false true e = some_not_none (One, a) e
    by_tests false false e = some_not_none (Two, b) e

-- neither file is open
pub record HasNone (s : Store) : Type 0 where
  pub one : IsAside One 0 s.one
  pub two : IsAside Two 0 s.two

pub none_open : (s : Store) → pool_in s ≡ Ok None → HasNone s
unfolding pool_in current_in
none_open s is =
    let p = ok_step (current_in s) (λ current. found_in s current) None is in
    let none = none_current s p.0 p.2 in
    let a = ok_step (pool_header_in One s.one) (λ one. pool_header_in Two s.two >>= λ two. newer (only_open one) (only_open two)) p.0 p.1 in
    let b = ok_step (pool_header_in Two s.two) (λ two. newer (only_open a.0) (only_open two)) p.0 a.2 in
    let closed = two_closed (only_open a.0) (only_open b.0) (b.2 ∙ ap (λ (x : Found). Ok x) none) in
    record {
      one = record { header = a.0; is = a.1; older = λ h is opened. absurd (not_open a.0 closed.0 h is opened) };
      two = record { header = b.0; is = b.1; older = λ h is opened. absurd (not_open b.0 closed.1 h is opened) };
    }

closed_aside : (o : Option PoolHeader) → ((h : PoolHeader) → o ≡ Some h → h.gate_open ≡ true → h.generation < 0) → only_open o ≡ None
closed_aside None older = refl
closed_aside (Some h) older = by_gate h.gate_open refl
  where
    by_gate : (b : Bool) → h.gate_open ≡ b → only_open (Some h) ≡ None
    by_gate true is = let bad = older h refl is in absurd (omega (arith, bad))
    by_gate false is = ap (λ (b : Bool). cond b (Some h) None) is

pub none_there : (s : Store) → IsAside One 0 s.one → IsAside Two 0 s.two → pool_in s ≡ Ok None
none_there s one two =
    pool_is s None (current_is s one.header two.header one.is two.is ∙ ap (λ (x : Option PoolHeader). newer x (only_open two.header)) (closed_aside one.header one.older) ∙ ap (newer None) (closed_aside two.header two.older))

-- ---- files beside the current one

abbrev gate_in : Option PoolHeader → Bool
gate_in None = false
gate_in (Some h) = h.gate_open

-- a file whose gate is not open is aside, whatever stands behind it
pub gate_aside : (f : DiskFile) (h : PoolHeader) (generation gate : ℕ) (behind file : List ℕ) → IsPoolHeader h → gate ≢ 165 → file ≡ pool_head h ++ gate ∷ behind → IsAside f generation file
gate_aside f h generation gate behind file held closed is = record {
  header = Some (with_gate h gate);
  is = ap (pool_header_in f) is ∙ header_back f h gate behind held;
  older = λ k same opened. absurd (wrong (sym (shut_gate gate closed) ∙ ap gate_in same ∙ opened));
}
  where
    wrong : false ≡ true → ⊥
    wrong e = cc

-- a file with a header of a smaller generation is aside
pub older_aside : (f : DiskFile) (h : PoolHeader) (generation : ℕ) (file : List ℕ) → pool_header_in f file ≡ Ok (Some h) → h.generation < generation → IsAside f generation file
older_aside f h generation file is less = record { header = Some h; is = is; older = λ k same opened. (let e : h ≡ k = cc in subst (λ (x : PoolHeader). x.generation < generation) e less) }
