-- A chain that begins, and one that is settled.
use Rattle.std.proofs.Common.{◌≡◌, ◌≢◌, ⊎_elim, refl, sym, ◌∙◌, ap, subst, ℕ, ◌+◌, ◌<◌, ◌≤◌, ◌^◌, ◌==◌, nat_lt, Bool, true, false, cond, IsTrue, List, [], ◌∷◌, ◌++◌, length, take, drop, Option, Some, None, Result, Ok, Err, arith, append_assoc, length-append, take-append-drop}
use Rattle.std.proofs.lemmas.List.{append-nil, take_at, take-take}
use Rattle.disk_model.specs.declared.disk_file.DiskFile.{DiskFile}
use Rattle.disk_model.specs.declared.disk_file.DiskFile.TheVariants.{Output, One, Two}
use Rattle.disk_model.specs.Store.{Store, file_of, with_file}
use Rattle.disk_model.specs.Change.{Cut, Sync, Start, Shortened}
use Rattle.disk_model.specs.View.{View, IsDisk, On, IsMade, Changes}
use Rattle.disk_model.specs.Moments.{Among, LeavesOnly}
use Rattle.disk_model.proofs.Calls.{changed, still, joined, after_change, made_seen, made_leaves}
use Rattle.image_format.specs.declared.header.Header.{Header}
use Rattle.image_format.specs.Image.{Image, IsHeldHeader}
use Rattle.image_format.specs.Reading.{◌>>=◌}
use Rattle.image_chain.specs.declared.chain.Current.{Current}
use Rattle.image_chain.specs.Records.{Damage, header_in, only_open, newer, in_number, newest_of, records_at, Found, found_in, chain_in}
use Rattle.image_chain.specs.Append.{header_of, head, Keeps, front, other, IsAside, Alone, IsAtRest}
use Rattle.image_chain.specs.Lists.{IsKept, HasNone}
use Rattle.image_chain.proofs.ListLaws.{Holds, found_store}
use Rattle.image_chain.proofs.StepLaws.{IsBefore, kept_moments, alone_after, gate_place, current_twice}

-- ---- a store without a chain

pub ok_step : {A B : Type 0} (r : Result A Damage) (f : A → Result B Damage) (y : B) → (r >>= f) ≡ Ok y → (x : A) × (r ≡ Ok x) × (f x ≡ Ok y)
ok_step (Ok x) f y e = (x, refl, e)
ok_step (Err d) f y e = absurd cc

abbrev read : {A : Type 0} → A → Result A Damage
read x = Ok x

-- a current file is found, or damaged
not_none : (s : Store) (c : DiskFile × Header) → found_in s (Some c) ≡ Ok None → ⊥
not_none s c is =
    let a = ok_step (records_at c.1.max c.0 (file_of c.0 s) None 15) (λ records. in_number c.0 (c.1.generation + length records) (newest_of None records) >>= λ _. Ok (Some (record { file = c.0; header = c.1; records = records }))) None is in
    let b = ok_step (in_number c.0 (c.1.generation + length a.0) (newest_of None a.0)) (λ _. Ok (Some (record { file = c.0; header = c.1; records = a.0 }))) None a.2 in
    some_not_none (record { file = c.0; header = c.1; records = a.0 }) b.2
  where
    some_not_none : (f : Found) → read (Some f) ≡ Ok None → ⊥
    some_not_none f e = cc

pub none_current : (s : Store) (c : Option (DiskFile × Header)) → found_in s c ≡ Ok None → c ≡ None
none_current s None is = refl
none_current s (Some c) is = absurd (not_none s c is)

abbrev current : DiskFile → Header → Result (Option (DiskFile × Header)) Damage
current f h = Ok (Some (f, h))

-- no file is the newer one: the gate of file Two is not open
two_closed : (one two : Option Header) → newer one two ≡ Ok None → two ≡ None
two_closed None None is = refl
two_closed (Some a) None is = refl
two_closed None (Some b) is = absurd (wrong b is)
  where
    wrong : (b : Header) → current Two b ≡ Ok None → ⊥
    wrong b e = cc
two_closed (Some a) (Some b) is = absurd (by_tests (a.generation == b.generation) (nat_lt b.generation a.generation) is)
  where
    by_tests : (t u : Bool) → cond t (Err (record { file = Two; place = 4 })) (cond u (current One a) (current Two b)) ≡ Ok None → ⊥
    by_tests true u e = cc
    by_tests false true e = cc
    by_tests false false e = cc

not_open : (o : Option Header) → only_open o ≡ None → (h : Header) → o ≡ Some h → h.gate_open ≡ true → ⊥
not_open o none h is opened = contra (sym none ∙ ap only_open is ∙ ap (λ (b : Bool). cond b (Some h) None) opened)
  where
    contra : None ≡ Some h → ⊥
    contra e = cc

-- a store without a chain has file Two aside
pub two_aside : (s : Store) (generation : ℕ) → chain_in s ≡ Ok None → IsAside Two generation 0 s.two
unfolding chain_in
two_aside s generation is =
    let a = ok_step (header_in One s.one) (λ one. header_in Two s.two >>= λ two. newer (only_open one) (only_open two) >>= λ current. found_in s current) None is in
    let b = ok_step (header_in Two s.two) (λ two. newer (only_open a.0) (only_open two) >>= λ current. found_in s current) None a.2 in
    let c = ok_step (newer (only_open a.0) (only_open b.0)) (λ current. found_in s current) None b.2 in
    let none = none_current s c.0 c.2 in
    let closed = two_closed (only_open a.0) (only_open b.0) (c.1 ∙ ap (λ (x : Option (DiskFile × Header)). read x) none) in
    record { header = b.0; is = b.1; older = λ h is opened. absurd (not_open b.0 closed h is opened) }

-- ---- the start

no_last : (before : List Image) (r : Image) → [] ≡ before ++ r ∷ [] → ⊥
no_last [] r e = cc
no_last (s ∷ before) r e = cc

pub started_keeps : (chain : Current) → IsHeldHeader (header_of chain) → chain.generation ≡ 1 → chain.count ≡ 0 → chain.gate ≡ 15 → chain.newest ≡ None → Keeps chain []
started_keeps chain held generation count gate newest = record {
  header = held;
  images = tt;
  order = tt;
  few = omega arith;
  number = omega arith;
  count = count;
  newest = newest;
  gate = omega arith;
  newest_at = λ before r e. absurd (no_last before r e);
  spans = refl;
}

-- the header of a chain that begins
abbrev pub new_header : ℕ → ℕ → Header
new_header every max = record { generation = 1; every = every; max = max; gate_open = true }

pub holds_new : (every max : ℕ) → every < 2 ^ 32 → 1 ≤ every → 2 ≤ max → max ≤ 64 → Holds (new_header every max) []
holds_new every max fits some least most = record {
  open_gate = refl;
  header = record { generation = omega arith; every = fits; ranges = record { generation = omega arith; every = some; max_least = least; max_most = most } };
  images = tt;
  order = tt;
  few = omega arith;
  number = omega arith;
}

started : (d : Store) (bytes : List ℕ) (h : Header) → Holds h [] → bytes ≡ head h ++ 0 ∷ [] → chain_in d ≡ Ok None → chain_in (with_file One bytes d) ≡ Ok None
started d bytes h holds is none = found_store One h [] 0 [] (with_file One bytes d) (λ e. absurd cc) holds (λ e. absurd (omega arith)) (is ∙ ap (λ (l : List ℕ). l ++ 0 ∷ []) (sym (append-nil (head h)))) (two_aside d h.generation none)

pub start_moments : {T E : Type 0} (bytes : List ℕ) (h : Header) (result : Result T E) (old new : View) → IsTrue old.tells → IsDisk old → Changes One (Start bytes) result old new → Holds h [] → bytes ≡ head h ++ 0 ∷ [] → ((c : Store) → old.may_leave c → chain_in c ≡ Ok None)
    → LeavesOnly old new (Among old.may_leave HasNone)
start_moments bytes h result old new tells disk changes holds is none =
    after_change One (Start bytes) result old old new R (λ _. tells) (still old R (λ _. disk) (λ _. tells) (λ _. here)) changes
    (λ _ c left. ⊎_elim (here c) there (changed One (Start bytes) result old new changes tells c left))
  where
    R : Store → Type 0
    R = Among old.may_leave HasNone

    here : (c : Store) → old.may_leave c → R c
    here c now = (c, now, (none c now, refl))

    there : {c : Store} → Among old.may_leave (On One (λ _ x. x ≡ bytes)) c → R c
    there {c} from = (from.0, from.1, (ap chain_in (from.2.2 ∙ ap (λ (l : List ℕ). with_file One l from.0) from.2.1) ∙ started from.0 bytes h holds is (none from.0 from.1), ap (λ (s : Store). s.output) from.2.2))

pub start_rest : {T E : Type 0} (chain : Current) (bytes : List ℕ) (result : Result T E) (old new : View) → IsTrue old.tells → Changes One (Start bytes) result old new → IsMade One (Start bytes) old new → chain.file ≡ One → Keeps chain [] → bytes ≡ head (header_of chain) ++ 0 ∷ []
    → ((c : Store) → old.may_leave c → chain_in c ≡ Ok None) → IsAtRest chain new [] []
start_rest chain bytes result old new tells changes made file keeps is none =
    let text : bytes ≡ front chain [] ++ 0 ∷ [] = is ∙ ap (λ (l : List ℕ). l ++ 0 ∷ []) (sym (append-nil (head (header_of chain)))) in
    record {
      keeps = keeps;
      alone = record { image_file = (λ e. wrong (sym file ∙ e)); aside = (λ c left. subst (λ (f : DiskFile). IsAside (other f) chain.generation 0 (file_of (other f) c)) (sym file) (beside c left)) };
      gate = 0;
      closed = λ e. absurd (omega arith);
      reads = ap (λ (f : DiskFile). file_of f new.seen) file ∙ made_seen One (Start bytes) old new made ∙ text;
      left = λ c left. ap (λ (f : DiskFile). file_of f c) file ∙ made_leaves One (Start bytes) old new (λ x. Unit {0}) (λ x. x ≡ bytes) made (λ c left. tt) (λ x y q same. same) c left ∙ text;
    }
  where
    wrong : One ≡ Output → ⊥
    wrong e = cc

    beside : (c : Store) → new.may_leave c → IsAside Two chain.generation 0 c.two
    beside c left =
        let from = (made.crash c).0 left in
        subst (λ (l : List ℕ). IsAside Two chain.generation 0 l) (sym (ap (λ (s : Store). s.two) from.2.2)) (two_aside from.0 chain.generation (none from.0 from.1))

-- ---- settling

cut_front : (before behind : List ℕ) (gate n : ℕ) → n ≡ length before + 1 → take n (before ++ gate ∷ behind) ≡ before ++ gate ∷ []
cut_front before behind gate n is =
    ap (λ (l : List ℕ). take n l) (sym (append_assoc before (gate ∷ []) behind)) ∙ take_at (before ++ gate ∷ []) behind n (sym (is ∙ sym (length-append before (gate ∷ []))))

-- a file that was cut behind its gate, or not
shortened : (before behind : List ℕ) (gate n : ℕ) (x y : List ℕ) → gate ≢ 165 → n ≡ length before + 1 → x ≡ before ++ gate ∷ behind → Shortened n x y → IsBefore before y
shortened before behind gate n x y closed is was short =
    let m = length y in
    let le : n ≤ m = (let a = short.no_shorter in let b = ap length was ∙ length-append before (gate ∷ behind) in omega arith) in
    let first : take n y ≡ before ++ gate ∷ [] = ap (take n) (sym short.front) ∙ take-take n m x le ∙ ap (take n) was ∙ cut_front before behind gate n is in
    record { gate = gate; behind = drop n y; closed = closed; bytes_are = sym (take-append-drop n y) ∙ ap (λ (l : List ℕ). l ++ drop n y) first ∙ append_assoc before (gate ∷ []) (drop n y) }

pub cut_moments : {T E : Type 0} (chain : Current) (n : ℕ) (old new : View) (rs : List Image) (behind : List ℕ) (result : Result T E) → IsTrue old.tells → IsDisk old → Changes chain.file (Cut n) result old new → IsAtRest chain old rs behind → n ≡ chain.gate + 1
    → LeavesOnly old new (Among old.may_leave (IsKept chain rs))
cut_moments chain n old new rs behind result tells disk changes rest is =
    let before = front chain rs in
    let place = gate_place chain rs rest.keeps in
    kept_moments chain (Cut n) result old new rs (λ x. x ≡ before ++ rest.gate ∷ behind) changes tells disk rest.keeps rest.alone rest.left
    (λ x y q short. shortened before behind rest.gate n x y rest.closed (omega arith) q short)
    (λ x q. record { gate = rest.gate; behind = behind; closed = rest.closed; bytes_are = q })

-- the file was cut, and a crash leaves it with the gate
pub record IsCut (chain : Current) (v : View) (rs : List Image) : Type 0 where
  pub keeps : Keeps chain rs
  pub alone : Alone chain v rs
  pub gate : ℕ
  pub closed : gate ≢ 165
  pub reads : file_of chain.file v.seen ≡ front chain rs ++ gate ∷ []
  pub left : (c : Store) → v.may_leave c → IsBefore (front chain rs) (file_of chain.file c)

pub is_cut : {T E : Type 0} (chain : Current) (n : ℕ) (old new : View) (rs : List Image) (behind : List ℕ) (result : Result T E) → IsTrue old.tells → Changes chain.file (Cut n) result old new → IsMade chain.file (Cut n) old new → IsAtRest chain old rs behind → n ≡ chain.gate + 1 → IsCut chain new rs
is_cut chain n old new rs behind result tells changes made rest is =
    let before = front chain rs in
    let place = gate_place chain rs rest.keeps in
    record {
      keeps = rest.keeps;
      alone = alone_after chain (Cut n) result old new rs changes tells rest.alone;
      gate = rest.gate;
      closed = rest.closed;
      reads = made_seen chain.file (Cut n) old new made ∙ ap (take n) rest.reads ∙ cut_front before behind rest.gate n (omega arith);
      left = made_leaves chain.file (Cut n) old new (λ x. x ≡ before ++ rest.gate ∷ behind) (IsBefore before) made rest.left (λ x y q short. shortened before behind rest.gate n x y rest.closed (omega arith) q short);
    }

pub settle_moments : {T E : Type 0} (chain : Current) (old mid new : View) (rs : List Image) (result : Result T E) → IsTrue old.tells → IsDisk mid → LeavesOnly old mid (Among old.may_leave (IsKept chain rs)) → IsCut chain mid rs → Changes chain.file Sync result mid new → LeavesOnly old new (Among old.may_leave (IsKept chain rs))
settle_moments chain old mid new rs result tells disk so_far cut changes =
    let mid_tells = subst IsTrue (sym so_far.tells) tells in
    let second = kept_moments chain Sync result mid new rs (IsBefore (front chain rs)) changes mid_tells disk cut.keeps cut.alone cut.left (λ x y q same. record { gate = cut.gate; behind = []; closed = cut.closed; bytes_are = same ∙ cut.reads }) (λ x q. q) in
    joined old mid new (Among old.may_leave (IsKept chain rs)) (Among mid.may_leave (IsKept chain rs)) (λ _. tells) so_far second
    (λ t s from. let was = so_far.now t from.0 from.1 in (was.0, was.1, (from.2.0, current_twice chain was.0 from.0 s was.2.1 from.2.1)))

pub settled : {T E : Type 0} (chain : Current) (mid new : View) (rs : List Image) (result : Result T E) → IsTrue mid.tells → Changes chain.file Sync result mid new → IsMade chain.file Sync mid new → IsCut chain mid rs → IsAtRest chain new rs []
settled chain mid new rs result tells changes made cut = record {
  keeps = cut.keeps;
  alone = alone_after chain Sync result mid new rs changes tells cut.alone;
  gate = cut.gate;
  closed = cut.closed;
  reads = made_seen chain.file Sync mid new made ∙ cut.reads;
  left = made_leaves chain.file Sync mid new (IsBefore (front chain rs)) (λ x. x ≡ front chain rs ++ cut.gate ∷ []) made cut.left (λ x y q same. same ∙ cut.reads);
}

pub settled_length : (chain : Current) (v : View) (rs : List Image) → IsAtRest chain v rs [] → length (file_of chain.file v.seen) ≡ chain.gate + 1
settled_length chain v rs rest = (let place = gate_place chain rs rest.keeps in ap length rest.reads ∙ length-append (front chain rs) (rest.gate ∷ []) ∙ omega arith)
