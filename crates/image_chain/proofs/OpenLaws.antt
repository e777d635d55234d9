-- The chain that is opened.
use Rattle.std.proofs.Common.{◌≡◌, ◌≢◌, ◌⊎◌, inl, inr, ⊎_elim, refl, sym, ◌∙◌, ap, subst, ℕ, ◌+◌, ◌<◌, ◌≤◌, ◌==◌, nat_lt, Bool, true, false, cond, IsTrue, List, [], ◌∷◌, length, drop, Option, Some, None, Result, Ok, Err, arith}
use Rattle.std.specs.Prelude.{slice_index}
use Rattle.std.proofs.lemmas.Bool.Decides.{nat_tests}
use Rattle.disk_model.specs.declared.disk_file.DiskFile.{DiskFile}
use Rattle.disk_model.specs.declared.disk_file.DiskFile.TheVariants.{Output, One, Two}
use Rattle.disk_model.specs.Store.{Store, file_of}
use Rattle.disk_model.specs.Change.{Sync}
use Rattle.disk_model.specs.View.{View, IsDisk, IsMade, Changes}
use Rattle.disk_model.specs.Moments.{LeavesOnly}
use Rattle.disk_model.proofs.Calls.{still, after_change, synced_leaves}
use Rattle.image_format.specs.declared.fields.Fields.{Fields}
use Rattle.image_format.specs.declared.header.Header.{Header}
use Rattle.image_format.specs.Image.{Image, IsHeldHeader}
use Rattle.image_format.specs.Spelling.{is_open}
use Rattle.image_format.specs.Reading.{◌>>=◌}
use Rattle.image_chain.specs.declared.chain.Current.{Current}
use Rattle.image_chain.specs.declared.fault.ChainFault.{ChainFault}
use Rattle.image_chain.specs.declared.fault.ChainFault.TheVariants.{Failed, Damaged}
use Rattle.image_chain.specs.Records.{Damage, header_in, only_open, newer, records_at, newest_of, in_number, Found, found_in, chain_in}
use Rattle.image_chain.specs.Memory.{Joined}
use Rattle.image_chain.specs.Append.{header_of, other, IsAside}
use Rattle.image_chain.specs.Sound.{IsNumbered}
use Rattle.image_chain.specs.Lists.{found_of, Rests}
use Rattle.image_chain.specs.Looking.{IsDamage, OnlyLooked}
use Rattle.image_chain.specs.Walk.{Walked, IsRead, IsReadFrom, IsFound, IsOpened, opened_as}
use Rattle.image_chain.specs.ChainView.{ChainView}
use Rattle.image_chain.specs.declared.chain.Step.TheVariants.{Piece}
use Rattle.image_chain.proofs.ListLaws.{current_is}
use Rattle.image_chain.proofs.StartLaws.{ok_step, none_current}
use Rattle.image_chain.proofs.WalkLaws.{walk_end, at_gate}

not_shut : (gate : ℕ) → is_open gate ≡ false → gate ≢ 165
not_shut gate closed is = grind (arith, nat_tests)

-- where there are records there is a newest one
newest_some : (newest : Fields) (rs : List Image) → (f : Fields) × (newest_of (Some newest) rs ≡ Some f)
newest_some newest [] = (newest, refl)
newest_some newest (r ∷ rs) = newest_some r.fields rs

abbrev fine : Result (Unit {0}) Damage
fine = Ok tt

abbrev bad : Damage → Result (Unit {0}) Damage
bad d = Err d

ok_test : (b : Bool) (d : Damage) → cond b (bad d) fine ≡ fine → b ≡ false
ok_test true d is = absurd cc
ok_test false d is = refl

pub not_ahead : (f : DiskFile) (ahead : ℕ) (newest : Fields) → in_number f ahead (Some newest) ≡ Ok tt → ahead ≤ newest.number + 1
not_ahead f ahead newest is = let t = ok_test (nat_lt (newest.number + 1) ahead) (record { file = f; place = 4 }) is in grind (arith, nat_tests)

numbered : (f : DiskFile) (ahead : ℕ) (rs : List Image) → 1 ≤ length rs → in_number f ahead (newest_of None rs) ≡ Ok tt → IsNumbered ahead (newest_of None rs)
numbered f ahead [] some is = absurd (omega arith)
numbered f ahead (r ∷ rs) some is =
    let n = newest_some r.fields rs in
    subst (IsNumbered ahead) (sym n.1) (not_ahead f ahead n.0 (sym (ap (in_number f ahead) n.1) ∙ is))

pub read_done : (current : Current) (kept : Joined) (rs : List Image) (file : List ℕ) (h : Header) → Walked current kept rs file → is_open (slice_index file current.gate) ≡ false → 1 ≤ length rs → IsHeldHeader h → header_of current ≡ h → current.count ≤ current.max
    → in_number current.file (current.generation + current.count) current.newest ≡ Ok tt → IsRead current kept rs file
read_done current kept rs file h walked closed some held header few number =
    let count = walked.count in
    let counted : in_number current.file (current.generation + length rs) (newest_of None rs) ≡ Ok tt = ap (λ (n : ℕ). in_number current.file (current.generation + n) (newest_of None rs)) (sym count) ∙ ap (in_number current.file (current.generation + current.count)) (sym walked.newest) ∙ number in
    record {
      keeps = record {
        header = subst IsHeldHeader (sym header) held;
        images = walked.images;
        order = walked.order;
        few = omega arith;
        number = numbered current.file (current.generation + length rs) rs some counted;
        count = walked.count;
        newest = walked.newest;
        gate = walked.gate;
        newest_at = walked.newest_at;
        spans = walked.spans;
      };
      some = some;
      gate = slice_index file current.gate;
      behind = drop (current.gate + 1) file;
      closed = not_shut (slice_index file current.gate) closed;
      text = at_gate current kept rs file walked;
      words = walked.words;
    }

found_some : (f : DiskFile) (h : Header) (rs : List Image) → 1 ≤ length rs → Some (record { file = f; header = h; records = rs }) ≡ found_of f h rs
found_some f h [] some = absurd (omega arith)
found_some f h (r ∷ rs) some = refl

pub found_done : (s : Store) (current : Current) (kept : Joined) (rs : List Image) (h : Header) → Walked current kept rs (file_of current.file s) → is_open (slice_index (file_of current.file s) current.gate) ≡ false → 1 ≤ length rs → header_of current ≡ h
    → in_number current.file (current.generation + current.count) current.newest ≡ Ok tt → found_in s (Some (current.file, h)) ≡ Ok (found_of current.file h rs)
found_done s current kept rs h walked closed some header number =
    let all : records_at h.max current.file (file_of current.file s) None 15 ≡ Ok rs = ap (λ (x : Header). records_at x.max current.file (file_of current.file s) None 15) (sym header) ∙ walk_end current kept rs (file_of current.file s) walked closed in
    let counted : in_number current.file (h.generation + length rs) (newest_of None rs) ≡ Ok tt =
    ap (λ (x : Header). in_number current.file (x.generation + length rs) (newest_of None rs)) (sym header) ∙ ap (λ (n : ℕ). in_number current.file (current.generation + n) (newest_of None rs)) (sym walked.count) ∙ ap (in_number current.file (current.generation + current.count)) (sym walked.newest) ∙ number in
    ap (λ (x : Result (List Image) Damage). x >>= λ records. in_number current.file (h.generation + length records) (newest_of None records) >>= λ _. Ok (Some (record { file = current.file; header = h; records = records }))) all
    ∙ ap (λ (x : Result (Unit {0}) Damage). x >>= λ _. Ok (Some (record { file = current.file; header = h; records = rs }))) counted
    ∙ ap (λ (x : Option Found). Ok x) (found_some current.file h rs some)

pub found_ahead : (s : Store) (current : Current) (kept : Joined) (rs : List Image) (h : Header) → Walked current kept rs (file_of current.file s) → is_open (slice_index (file_of current.file s) current.gate) ≡ false → header_of current ≡ h
    → in_number current.file (current.generation + current.count) current.newest ≡ Err (record { file = current.file; place = 4 }) → found_in s (Some (current.file, h)) ≡ Err (record { file = current.file; place = 4 })
found_ahead s current kept rs h walked closed header number =
    let all : records_at h.max current.file (file_of current.file s) None 15 ≡ Ok rs = ap (λ (x : Header). records_at x.max current.file (file_of current.file s) None 15) (sym header) ∙ walk_end current kept rs (file_of current.file s) walked closed in
    let counted : in_number current.file (h.generation + length rs) (newest_of None rs) ≡ Err (record { file = current.file; place = 4 }) =
    ap (λ (x : Header). in_number current.file (x.generation + length rs) (newest_of None rs)) (sym header) ∙ ap (λ (n : ℕ). in_number current.file (current.generation + n) (newest_of None rs)) (sym walked.count) ∙ ap (in_number current.file (current.generation + current.count)) (sym walked.newest) ∙ number in
    ap (λ (x : Result (List Image) Damage). x >>= λ records. in_number current.file (h.generation + length records) (newest_of None records) >>= λ _. Ok (Some (record { file = current.file; header = h; records = records }))) all
    ∙ ap (λ (x : Result (Unit {0}) Damage). x >>= λ _. Ok (Some (record { file = current.file; header = h; records = rs }))) counted

pub ahead_yes : (b : Bool) (d : Damage) (x : Result (Unit {0}) Damage) → x ≡ cond b (bad d) fine → b ≡ true → x ≡ bad d
ahead_yes b d x is holds = is ∙ ap (λ (t : Bool). cond t (bad d) fine) holds

pub ahead_no : (b : Bool) (d : Damage) (x : Result (Unit {0}) Damage) → x ≡ cond b (bad d) fine → b ≡ false → x ≡ fine
ahead_no b d x is fails = is ∙ ap (λ (t : Bool). cond t (bad d) fine) fails

pub found_in_file : (s : Store) (current : Current) (kept : Joined) (rs : List Image) (f : DiskFile) (h : Header) → current.file ≡ f → Walked current kept rs (file_of f s) → is_open (slice_index (file_of f s) current.gate) ≡ false → 1 ≤ length rs → header_of current ≡ h
    → in_number current.file (current.generation + current.count) current.newest ≡ Ok tt → found_in s (Some (f, h)) ≡ Ok (found_of f h rs)
found_in_file s current kept rs f h same walked closed some header number =
    subst (λ (g : DiskFile). Walked current kept rs (file_of g s) → is_open (slice_index (file_of g s) current.gate) ≡ false → found_in s (Some (g, h)) ≡ Ok (found_of g h rs)) same (λ w c. found_done s current kept rs h w c some header number) walked closed

pub ahead_in_file : (s : Store) (current : Current) (kept : Joined) (rs : List Image) (f : DiskFile) (h : Header) → current.file ≡ f → Walked current kept rs (file_of f s) → is_open (slice_index (file_of f s) current.gate) ≡ false → header_of current ≡ h
    → in_number current.file (current.generation + current.count) current.newest ≡ Err (record { file = current.file; place = 4 }) → found_in s (Some (f, h)) ≡ Err (record { file = f; place = 4 })
ahead_in_file s current kept rs f h same walked closed header number =
    subst (λ (g : DiskFile). Walked current kept rs (file_of g s) → is_open (slice_index (file_of g s) current.gate) ≡ false → found_in s (Some (g, h)) ≡ Err (record { file = g; place = 4 })) same (λ w c. found_ahead s current kept rs h w c header number) walked closed

-- ---- the store

pub one_damage : (s : Store) (e : ChainFault) → IsDamage e (header_in One s.one) → IsDamage e (chain_in s)
unfolding chain_in
one_damage s Failed is = tt
one_damage s (Damaged f place) is = ap (λ (x : Result (Option Header) Damage). x >>= λ one. header_in Two s.two >>= λ two. newer (only_open one) (only_open two) >>= λ current. found_in s current) is

pub two_damage : (s : Store) (one : Option Header) (e : ChainFault) → header_in One s.one ≡ Ok one → IsDamage e (header_in Two s.two) → IsDamage e (chain_in s)
unfolding chain_in
two_damage s one Failed first is = tt
two_damage s one (Damaged f place) first is =
    ap (λ (x : Result (Option Header) Damage). x >>= λ one. header_in Two s.two >>= λ two. newer (only_open one) (only_open two) >>= λ current. found_in s current) first
    ∙ ap (λ (x : Result (Option Header) Damage). x >>= λ two. newer (only_open one) (only_open two) >>= λ current. found_in s current) is

pub both_damage : (s : Store) (one two : Option Header) (e : ChainFault) → header_in One s.one ≡ Ok one → header_in Two s.two ≡ Ok two → IsDamage e (newer (only_open one) (only_open two)) → IsDamage e (chain_in s)
unfolding chain_in
both_damage s one two Failed first second is = tt
both_damage s one two (Damaged f place) first second is =
    ap (λ (x : Result (Option Header) Damage). x >>= λ one. header_in Two s.two >>= λ two. newer (only_open one) (only_open two) >>= λ current. found_in s current) first
    ∙ ap (λ (x : Result (Option Header) Damage). x >>= λ two. newer (only_open one) (only_open two) >>= λ current. found_in s current) second
    ∙ ap (λ (x : Result (Option (DiskFile × Header)) Damage). x >>= λ current. found_in s current) is

pub found_damage : (s : Store) (one two : Option Header) (c : DiskFile × Header) (e : ChainFault) → header_in One s.one ≡ Ok one → header_in Two s.two ≡ Ok two → newer (only_open one) (only_open two) ≡ Ok (Some c) → IsDamage e (found_in s (Some c)) → IsDamage e (chain_in s)
found_damage s one two c Failed first second both is = tt
found_damage s one two c (Damaged f place) first second both is = current_is s one two (Some c) first second both ∙ is

-- which of the two files is current, and that the other one is aside
pub record IsCurrent (one two : Option Header) (file_one file_two : List ℕ) (c : DiskFile × Header) : Type 0 where
  pub opened : c.1.gate_open ≡ true
  pub which : ((c.0 ≡ One) × (one ≡ Some c.1)) ⊎ ((c.0 ≡ Two) × (two ≡ Some c.1))
  pub aside : (count : ℕ) → 1 ≤ count → ((c.0 ≡ One) × IsAside Two c.1.generation count file_two) ⊎ ((c.0 ≡ Two) × IsAside One c.1.generation count file_one)

only_some : (o : Option Header) (h : Header) → only_open o ≡ Some h → (o ≡ Some h) × (h.gate_open ≡ true)
only_some None h is = absurd cc
only_some (Some k) h is = by_gate k.gate_open refl is
  where
    by_gate : (b : Bool) → k.gate_open ≡ b → cond b (Some k) None ≡ Some h → (Some k ≡ Some h) × (h.gate_open ≡ true)
    by_gate true e is = (is, (let same : k ≡ h = cc in sym (ap (λ (x : Header). x.gate_open) same) ∙ e))
    by_gate false e is = absurd cc

not_older : (o : Option Header) → only_open o ≡ None → (generation count : ℕ) (h : Header) → o ≡ Some h → h.gate_open ≡ true → (1 ≤ count) × (h.generation < generation)
not_older o none generation count h is opened = absurd (contra (sym none ∙ ap only_open is ∙ ap (λ (b : Bool). cond b (Some h) None) opened))
  where
    contra : None ≡ Some h → ⊥
    contra e = cc

is_older : (o : Option Header) (k : Header) → only_open o ≡ Some k → (generation count : ℕ) → k.generation < generation → 1 ≤ count → (h : Header) → o ≡ Some h → h.gate_open ≡ true → (1 ≤ count) × (h.generation < generation)
is_older o k some generation count less one h is opened = (one, subst (λ (x : Header). x.generation < generation) (sym same) less)
  where
    both : Some k ≡ Some h
    both = sym some ∙ ap only_open is ∙ ap (λ (b : Bool). cond b (Some h) None) opened

    same : h ≡ k
    same = cc both

abbrev chosen : DiskFile → Header → Result (Option (DiskFile × Header)) Damage
chosen f h = Ok (Some (f, h))

abbrev picked : DiskFile × Header → Result (Option (DiskFile × Header)) Damage
picked c = Ok (Some c)

-- ---- the choice between two open headers
by_generation : (a b : Header) (c : DiskFile × Header) → newer (Some a) (Some b) ≡ picked c → ((b.generation < a.generation) × ((One, a) ≡ c)) ⊎ ((a.generation < b.generation) × ((Two, b) ≡ c))
by_generation a b c is = by_tests (a.generation == b.generation) (nat_lt b.generation a.generation) refl refl is
  where
    by_tests : (t u : Bool) → (a.generation == b.generation) ≡ t → nat_lt b.generation a.generation ≡ u → cond t (Err (record { file = Two; place = 4 })) (cond u (chosen One a) (chosen Two b)) ≡ picked c → ((b.generation < a.generation) × ((One, a) ≡ c)) ⊎ ((a.generation < b.generation) × ((Two, b) ≡ c))
    by_tests true u s t is = absurd cc
    by_tests false true s t is = inl (grind (arith, nat_tests), cc)
    by_tests false false s t is = inr (grind (arith, nat_tests), cc)

pub current_of : (one two : Option Header) (file_one file_two : List ℕ) (c : DiskFile × Header) → header_in One file_one ≡ Ok one → header_in Two file_two ≡ Ok two → newer (only_open one) (only_open two) ≡ picked c → IsCurrent one two file_one file_two c
current_of one two file_one file_two c first second both = by_open (only_open one) (only_open two) refl refl both
  where
    by_open : (a b : Option Header) → only_open one ≡ a → only_open two ≡ b → newer a b ≡ picked c → IsCurrent one two file_one file_two c
    by_open None None ea eb is = absurd cc
    by_open (Some a) None ea eb is =
        let same : (One, a) ≡ c = cc in
        let o = only_some one a ea in
        subst (λ (x : DiskFile × Header). IsCurrent one two file_one file_two x) same (record {
          opened = o.1;
          which = inl (refl, o.0);
          aside = λ count some. inl (refl, record { header = two; is = second; older = not_older two eb a.generation count });
        })
    by_open None (Some b) ea eb is =
        let same : (Two, b) ≡ c = cc in
        let o = only_some two b eb in
        subst (λ (x : DiskFile × Header). IsCurrent one two file_one file_two x) same (record {
          opened = o.1;
          which = inr (refl, o.0);
          aside = λ count some. inr (refl, record { header = one; is = first; older = not_older one ea b.generation count });
        })
    by_open (Some a) (Some b) ea eb is = ⊎_elim
        (λ left. let o = only_some one a ea in
        subst (λ (x : DiskFile × Header). IsCurrent one two file_one file_two x) left.1 (record {
          opened = o.1;
          which = inl (refl, o.0);
          aside = λ count some. inl (refl, record { header = two; is = second; older = is_older two b eb a.generation count left.0 some });
        }))
        (λ right. let o = only_some two b eb in
        subst (λ (x : DiskFile × Header). IsCurrent one two file_one file_two x) right.1 (record {
          opened = o.1;
          which = inr (refl, o.0);
          aside = λ count some. inr (refl, record { header = one; is = first; older = is_older one a ea b.generation count right.0 some });
        }))
        (by_generation a b c is)

-- ---- as the calls ask it

pub second_is : (s mid : Store) (two : Option Header) → mid ≡ s → header_in Two mid.two ≡ Ok two → header_in Two s.two ≡ Ok two
second_is s mid two same is = ap (λ (x : Store). header_in Two x.two) (sym same) ∙ is

pub second_damage : (s mid : Store) (e : ChainFault) → mid ≡ s → IsDamage e (header_in Two mid.two) → IsDamage e (header_in Two s.two)
second_damage s mid e same is = subst (λ (x : Store). IsDamage e (header_in Two x.two)) same is

pub read_from : (chain : ChainView) (kept : Joined) (rs : List Image) (s : Store) (one two : Option Header) (c : DiskFile × Header) → IsCurrent one two s.one s.two c → chain.current.file ≡ c.0 → header_of chain.current ≡ c.1 → chain.due ≡ Piece 0 → IsRead chain.current kept rs (file_of c.0 s)
    → IsReadFrom chain kept rs s
read_from chain kept rs s one two c current file header due read = record {
  due = due;
  image_file = λ e. ⊎_elim (λ left. one_not (sym left.0 ∙ sym file ∙ e)) (λ right. two_not (sym right.0 ∙ sym file ∙ e)) current.which;
  read = subst (λ (f : DiskFile). IsRead chain.current kept rs (file_of f s)) (sym file) read;
  aside = ⊎_elim (λ left. placed One (file ∙ left.0) left.1) (λ right. placed Two (file ∙ right.0) right.1) (current.aside (length rs) read.some);
}
  where
    one_not : One ≡ Output → ⊥
    one_not e = cc

    two_not : Two ≡ Output → ⊥
    two_not e = cc

    placed : (f : DiskFile) → chain.current.file ≡ f → IsAside (other f) c.1.generation (length rs) (file_of (other f) s) → IsAside (other chain.current.file) chain.current.generation (length rs) (file_of (other chain.current.file) s)
    placed f same aside = subst (λ (x : DiskFile). IsAside (other x) chain.current.generation (length rs) (file_of (other x) s)) (sym same) (subst (λ (n : ℕ). IsAside (other f) n (length rs) (file_of (other f) s)) (sym (ap (λ (h : Header). h.generation) header)) aside)

pub found_named : (s : Store) (f g : DiskFile) (h k : Header) (rs : List Image) → f ≡ g → h ≡ k → chain_in s ≡ Ok (found_of g k rs) → chain_in s ≡ Ok (found_of f h rs)
found_named s f g h k rs e d is = is ∙ ap (λ (x : DiskFile). Ok (found_of x k rs)) (sym e) ∙ ap (λ (x : Header). Ok (found_of f x rs)) (sym d)

-- ---- on the disk

-- an outcome that has both image files as they read
pub record HasFiles (s c : Store) : Type 0 where
  pub one : c.one ≡ s.one
  pub two : c.two ≡ s.two

file_is : (f : DiskFile) (s c : Store) → f ≢ Output → HasFiles s c → file_of f c ≡ file_of f s
file_is Output s c image_file has = absurd (image_file refl)
file_is One s c image_file has = has.one
file_is Two s c image_file has = has.two

other_file_is : (f : DiskFile) (s c : Store) → HasFiles s c → file_of (other f) c ≡ file_of (other f) s
other_file_is Output s c has = has.one
other_file_is One s c has = has.two
other_file_is Two s c has = has.one

pub opened_rests : (chain : ChainView) (kept : Joined) (rs : List Image) (s : Store) (v : View) → IsReadFrom chain kept rs s → v.seen ≡ s → ((c : Store) → v.may_leave c → HasFiles s c) → Rests chain v rs
opened_rests chain kept rs s v from seen lasting =
    let f = chain.current.file in
    let read = from.read in (
      from.due,
      (
        read.behind,
        record {
          keeps = read.keeps;
          alone = record {
            image_file = from.image_file;
            aside = λ c left. subst (IsAside (other f) chain.current.generation (length rs)) (sym (other_file_is f s c (lasting c left))) from.aside;
          };
          gate = read.gate;
          closed = read.closed;
          reads = ap (file_of f) seen ∙ read.text;
          left = λ c left. file_is f s c from.image_file (lasting c left) ∙ read.text;
        },
      ),
    )

pub none_stays : (s c : Store) → chain_in s ≡ Ok None → HasFiles s c → chain_in c ≡ Ok None
unfolding chain_in
none_stays s c is has =
    let a = ok_step (header_in One s.one) (λ one. header_in Two s.two >>= λ two. newer (only_open one) (only_open two) >>= λ current. found_in s current) None is in
    let b = ok_step (header_in Two s.two) (λ two. newer (only_open a.0) (only_open two) >>= λ current. found_in s current) None a.2 in
    let d = ok_step (newer (only_open a.0) (only_open b.0)) (λ current. found_in s current) None b.2 in
    let none = none_current s d.0 d.2 in
    current_is c a.0 b.0 None (ap (header_in One) has.one ∙ a.1) (ap (header_in Two) has.two ∙ b.1) (d.1 ∙ ap (λ (x : Option (DiskFile × Header)). Ok x) none)

pub synced_files : (old mid new : View) → IsMade One Sync old mid → IsMade Two Sync mid new → mid.seen ≡ old.seen → (c : Store) → new.may_leave c → HasFiles old.seen c
synced_files old mid new first second same c left =
    let from = (second.crash c).0 left in
    record {
      one = ap (λ (x : Store). x.one) from.2.2 ∙ synced_leaves One old mid first from.0 from.1;
      two = ap (λ (x : Store). x.two) from.2.2 ∙ from.2.1 ∙ ap (λ (x : Store). x.two) same;
    }

pub opened_moment : {T E : Type 0} (f : DiskFile) (result : Result T E) (old mid new : View) → IsTrue old.tells → LeavesOnly old mid old.may_leave → Changes f Sync result mid new → ((c : Store) → new.may_leave c → old.may_leave c) → LeavesOnly old new old.may_leave
opened_moment f result old mid new tells so_far changes only = after_change f Sync result old mid new old.may_leave (λ _. tells) so_far changes (λ _. only)

pub first_moment : (v : View) → IsTrue v.tells → IsDisk v → LeavesOnly v v v.may_leave
first_moment v tells disk = still v v.may_leave (λ _. disk) (λ _. tells) (λ _ c left. left)

pub after_looked : (old mid new : View) (P : Store → Type 0) → LeavesOnly old mid P → OnlyLooked mid new → LeavesOnly old new P
after_looked old mid new P so_far looked = record {
  tells = looked.tells ∙ so_far.tells;
  tells_past = looked.tells_past ∙ so_far.tells_past;
  now = λ t c left. so_far.now t c ((looked.crash (subst IsTrue (sym so_far.tells) t) c).0 left);
  later = λ p. let a = so_far.later p in let b = looked.later (q p) in omega (arith, a, b);
  each = λ p c left. so_far.each p c ((looked.past (q p) old.moment c (so_far.later p)).0 left);
  before = λ p t c le left. let a = so_far.later p in so_far.before p t c le ((looked.past (q p) t c (omega (arith, le, a))).0 left);
}
  where
    q : IsTrue old.tells_past → IsTrue mid.tells_past
    q p = subst IsTrue (sym so_far.tells_past) p

pub opened_all : (found : Option ChainView) (kept : Joined) (rs : List Image) (s : Store) (v : View) → chain_in s ≡ Ok (opened_as found rs) → IsFound found kept rs s → v.seen ≡ s → ((c : Store) → v.may_leave c → HasFiles s c) → IsOpened found kept rs v
opened_all None kept rs s v is from seen lasting = λ c left. none_stays s c is (lasting c left)
opened_all (Some chain) kept rs s v is from seen lasting = (opened_rests chain kept rs s v from seen lasting, from.read.words)
