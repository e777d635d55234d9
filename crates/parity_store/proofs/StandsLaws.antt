-- A pool on a disk: once it was read, and once it was written.
use Rattle.std.proofs.Common.{◌≡◌, ◌≢◌, inl, inr, ⊎_elim, refl, sym, ◌∙◌, ap, subst, ℕ, ◌+◌, ◌<◌, Bool, true, IsTrue, List, ◌∷◌, ◌++◌, Option, Some, None, Result, Ok, arith}
use Rattle.disk_model.specs.declared.disk_file.DiskFile.{DiskFile}
use Rattle.disk_model.specs.declared.disk_file.DiskFile.TheVariants.{Output, One, Two}
use Rattle.disk_model.specs.Store.{Store, file_of, with_file}
use Rattle.disk_model.specs.Change.{Sync}
use Rattle.disk_model.specs.View.{View, IsDisk, IsMade, Changes, On, SameFile}
use Rattle.disk_model.specs.Keeps.{Untouched}
use Rattle.disk_model.specs.Moments.{Among, LeavesOnly}
use Rattle.disk_model.proofs.Calls.{file_of-with_file, still, after_change, synced_leaves, weaken, other_file, others_stay, stays_twice}
use Rattle.parity_store.specs.declared.header.PoolHeader.{PoolHeader}
use Rattle.parity_store.specs.Layout.{IsPoolHeader, InPoolRange, pool_head}
use Rattle.parity_store.specs.Slots.{IsPool}
use Rattle.parity_store.specs.Pools.{pool_header_in, pool_text_in, pool_in, other, IsAside}
use Rattle.parity_store.specs.OnDisk.{PoolView, StandsOn, IsOpened, IsReadFrom, IsFoundIn, found_of, next_header, first_header, HasPool, IsPutting, IsMaking}
use Rattle.parity_store.specs.Writing.{OnlyFile, IsOut, IsAsideOrOut, Puts}
use Rattle.parity_store.proofs.HeaderLaws.{header_back}
use Rattle.parity_store.proofs.StoreLaws.{text_good, current_with, none_open, none_there, older_aside, one_image, two_image}
use Rattle.parity_store.proofs.MomentLaws.{untouched_file}
use Rattle.parity_store.proofs.TextLaws.{text_is_good}

-- ---- what was opened

-- an outcome that has both image files as they read
pub record HasFiles (s c : Store) : Type 0 where
  pub one : c.one ≡ s.one
  pub two : c.two ≡ s.two

file_is : (f : DiskFile) (s c : Store) → f ≢ Output → HasFiles s c → file_of f c ≡ file_of f s
file_is Output s c image_file has = absurd (image_file refl)
file_is One s c image_file has = has.one
file_is Two s c image_file has = has.two

other_file_is : (f : DiskFile) (s c : Store) → HasFiles s c → file_of (other f) c ≡ file_of (other f) s
other_file_is Output s c has = has.one
other_file_is One s c has = has.two
other_file_is Two s c has = has.one

opened_stands : (pool : PoolView) (s : Store) (v : View) → IsReadFrom pool s → v.seen ≡ s → ((c : Store) → v.may_leave c → HasFiles s c) → StandsOn pool v
opened_stands pool s v from seen lasting = record {
  image_file = from.image_file;
  gate = from.gate;
  header = ap (λ (x : Store). pool_header_in pool.file (file_of pool.file x)) seen ∙ from.header;
  text = ap (λ (x : Store). pool_text_in pool.file pool.header (file_of pool.file x)) seen ∙ from.text;
  lasting = λ c left. file_is pool.file s c from.image_file (lasting c left) ∙ sym (ap (file_of pool.file) seen);
  aside = λ c left. subst (IsAside (other pool.file) pool.header.generation) (sym (other_file_is pool.file s c (lasting c left))) from.aside;
}

none_stays : (s c : Store) → pool_in s ≡ Ok None → HasFiles s c → pool_in c ≡ Ok None
none_stays s c is has =
    let none = none_open s is in
    none_there c (subst (IsAside One 0) (sym has.one) none.one) (subst (IsAside Two 0) (sym has.two) none.two)

pub opened_all : (found : Option PoolView) (s : Store) (v : View) → IsFoundIn found s → v.seen ≡ s → ((c : Store) → v.may_leave c → HasFiles s c) → (pool_in s ≡ Ok (found_of found)) × IsOpened found v
opened_all None s v from seen lasting = (from, λ c left. none_stays s c from (lasting c left))
opened_all (Some pool) s v from seen lasting = (from.0, opened_stands pool s v from.1 seen lasting)

pub synced_files : (old mid new : View) → IsMade One Sync old mid → IsMade Two Sync mid new → mid.seen ≡ old.seen → (c : Store) → new.may_leave c → HasFiles old.seen c
synced_files old mid new first second same c left =
    let from = (second.crash c).0 left in
    record {
      one = ap (λ (x : Store). x.one) from.2.2 ∙ synced_leaves One old mid first from.0 from.1;
      two = ap (λ (x : Store). x.two) from.2.2 ∙ from.2.1 ∙ ap (λ (x : Store). x.two) same;
    }

pub opened_moment : {T E : Type 0} (f : DiskFile) (result : Result T E) (old mid new : View) → IsTrue old.tells → LeavesOnly old mid old.may_leave → Changes f Sync result mid new → ((c : Store) → new.may_leave c → old.may_leave c) → LeavesOnly old new old.may_leave
opened_moment f result old mid new tells so_far changes only = after_change f Sync result old mid new old.may_leave (λ _. tells) so_far changes (λ _. only)

pub first_moment : (v : View) → IsTrue v.tells → IsDisk v → LeavesOnly v v v.may_leave
first_moment v tells disk = still v v.may_leave (λ _. disk) (λ _. tells) (λ _ c left. left)

-- ---- two image files

other_is : (f : DiskFile) → f ≢ Output → other f ≢ f
other_is Output image_file same = image_file refl
other_is One image_file same = absurd cc
other_is Two image_file same = absurd cc

pub other_apart : (f : DiskFile) → f ≢ Output → f ≢ other f
other_apart f image_file same = other_is f image_file (sym same)

pub other_image : (f : DiskFile) → other f ≢ Output
other_image Output same = absurd cc
other_image One same = absurd cc
other_image Two same = absurd cc

other_twice : (f : DiskFile) → f ≢ Output → other (other f) ≡ f
other_twice Output image_file = absurd (image_file refl)
other_twice One image_file = refl
other_twice Two image_file = refl

output_is : (f : DiskFile) (bytes : List ℕ) (d : Store) → f ≢ Output → (with_file f bytes d).output ≡ d.output
output_is Output bytes d image_file = absurd (image_file refl)
output_is One bytes d image_file = refl
output_is Two bytes d image_file = refl

store_output : (f : DiskFile) (bytes : List ℕ) (d s : Store) → f ≢ Output → s ≡ with_file f bytes d → s.output ≡ d.output
store_output f bytes d s image_file same = ap (λ (x : Store). x.output) same ∙ output_is f bytes d image_file

-- ---- a pool that was put

pub next_held : (h : PoolHeader) → IsPoolHeader h → h.generation < 4294967295 → IsPoolHeader (next_header h)
next_held h held free = record { generation = omega arith; generation_held = omega (arith, free); ranges = held.ranges }

-- the header of a file that is out
out_header : (f : DiskFile) (h : PoolHeader) (text file : List ℕ) → IsPoolHeader h → h.gate_open ≡ true → file ≡ pool_head h ++ 165 ∷ text → pool_header_in f file ≡ Ok (Some h)
out_header f h text file held gate is = ap (pool_header_in f) is ∙ header_back f h 165 text held ∙ ap (λ (b : Bool). Ok (Some (record { generation = h.generation; size = h.size; jobs = h.jobs; gate_open = b }))) (sym gate)

-- the file of before, as an outcome has it, is aside of the next generation
before_aside : (pool : PoolView) (v : View) (file : List ℕ) → StandsOn pool v → file ≡ file_of pool.file v.seen → IsAside pool.file (pool.header.generation + 1) file
before_aside pool v file stands is = older_aside pool.file pool.header (pool.header.generation + 1) file (ap (pool_header_in pool.file) is ∙ stands.header) (omega arith)

-- a store in which the file of before is current
still_current : (pool : PoolView) (v : View) (s : Store) → StandsOn pool v → file_of pool.file s ≡ file_of pool.file v.seen → IsAside (other pool.file) pool.header.generation (file_of (other pool.file) s) → pool_in s ≡ Ok (Some (pool.file, pool.header))
still_current pool v s stands is aside =
    text_good s (pool.file, pool.header)
    (current_with pool.file pool.header s stands.image_file stands.gate (ap (pool_header_in pool.file) is ∙ stands.header) aside)
    (ap (pool_text_in pool.file pool.header) is ∙ stands.text)

-- a store in which the new one is
new_current : (pool : PoolView) (v : View) (s : Store) (list : List (List ℕ)) (text : List ℕ) → StandsOn pool v → IsPoolHeader (next_header pool.header) → file_of pool.file s ≡ file_of pool.file v.seen → file_of (other pool.file) s ≡ pool_head (next_header pool.header) ++ 165 ∷ text
    → IsPool (next_header pool.header) list (pool_head (next_header pool.header) ++ 165 ∷ text) → HasPool (other pool.file) (next_header pool.header) list s
new_current pool v s list text stands held is out good =
    let f = other pool.file in
    let h = next_header pool.header in
    let there = subst (IsPool h list) (sym out) good in
    let aside = subst (λ (g : DiskFile). IsAside g (pool.header.generation + 1) (file_of g s)) (sym (other_twice pool.file stands.image_file)) (before_aside pool v (file_of pool.file s) stands is) in (
      text_good s (f, h) (current_with f h s (other_image pool.file) refl (out_header f h text (file_of f s) held refl out) aside) (text_is_good f h list (file_of f s) there),
      there,
    )

putting_of : (pool : PoolView) (v : View) (d s : Store) (bytes text : List ℕ) (list : List (List ℕ)) → StandsOn pool v → IsPoolHeader (next_header pool.header) → v.may_leave d → s ≡ with_file (other pool.file) bytes d
    → IsAsideOrOut (other pool.file) (next_header pool.header) pool.header.generation text bytes → IsPool (next_header pool.header) list (pool_head (next_header pool.header) ++ 165 ∷ text) → IsPutting pool list d s
putting_of pool v d s bytes text list stands held was same left good =
    let f = other pool.file in
    let entry : file_of pool.file s ≡ file_of pool.file d = ap (file_of pool.file) same ∙ other_file f pool.file bytes d (other_is pool.file stands.image_file) in
    let theirs : file_of f s ≡ bytes = ap (file_of f) same ∙ file_of-with_file f bytes d in
    let is = entry ∙ stands.lasting d was in
    record {
      output = store_output f bytes d s (other_image pool.file) same;
      entry = entry;
      current = ⊎_elim
          (λ aside. inl (still_current pool v s stands is (subst (IsAside f pool.header.generation) (sym theirs) aside)))
          (λ out. inr (new_current pool v s list text stands held is (theirs ∙ out) good))
          left;
    }

pub putting : (pool : PoolView) (old new : View) (text : List ℕ) (list : List (List ℕ)) → StandsOn pool old → IsPoolHeader (next_header pool.header) → Puts (other pool.file) (next_header pool.header) pool.header.generation text old new
    → IsPool (next_header pool.header) list (pool_head (next_header pool.header) ++ 165 ∷ text) → LeavesOnly old new (Among old.may_leave (IsPutting pool list))
putting pool old new text list stands held run good =
    weaken old new (Among old.may_leave (IsPutting pool list)) (Among old.may_leave (On (other pool.file) (λ _ bytes. IsAsideOrOut (other pool.file) (next_header pool.header) pool.header.generation text bytes))) run
    (λ s from. (from.0, from.1, putting_of pool old from.0 s from.2.0 text list stands held from.1 from.2.2 from.2.1 good))

-- before the other file is begun
pub putting_none : (pool : PoolView) (v w : View) (list : List (List ℕ)) → IsTrue v.tells → IsDisk v → StandsOn pool v → LeavesOnly v w v.may_leave → LeavesOnly v w (Among v.may_leave (IsPutting pool list))
putting_none pool v w list tells disk stands run =
    weaken v w (Among v.may_leave (IsPutting pool list)) v.may_leave run
    (λ c left. (c, left, record { output = refl; entry = refl; current = inl (still_current pool v c stands (stands.lasting c left) (stands.aside c left)) }))

-- the pool that stands in the other file
pub put_stands : (pool : PoolView) (old new : View) (text : List ℕ) (list : List (List ℕ)) → StandsOn pool old → IsPoolHeader (next_header pool.header) → IsOut (other pool.file) (next_header pool.header) new text → OnlyFile (other pool.file) old new
    → IsPool (next_header pool.header) list (pool_head (next_header pool.header) ++ 165 ∷ text)
    → StandsOn (record { file = other pool.file; header = next_header pool.header }) new × IsPool (next_header pool.header) list (file_of (other pool.file) new.seen)
put_stands pool old new text list stands held out only good =
    let f = other pool.file in
    let h = next_header pool.header in
    let there = subst (IsPool h list) (sym out.reads) good in
    let back = other_twice pool.file stands.image_file in (
      record {
        image_file = other_image pool.file;
        gate = refl;
        header = out_header f h text (file_of f new.seen) held refl out.reads;
        text = text_is_good f h list (file_of f new.seen) there;
        lasting = λ c left. out.left c left ∙ sym out.reads;
        aside = λ c left.
            let from = (only pool.file (other_apart pool.file stands.image_file)).only c left in
            subst (λ (g : DiskFile). IsAside g (pool.header.generation + 1) (file_of g c)) (sym back) (before_aside pool old (file_of pool.file c) stands (from.2 ∙ stands.lasting from.0 from.1));
      },
      there,
    )

-- ---- a pool that was made

not_output : One ≢ Output
not_output e = cc

not_two : One ≢ Two
not_two e = cc

aside_of_first : (f : DiskFile) (bytes : List ℕ) → IsAside f 0 bytes → IsAside f 1 bytes
aside_of_first f bytes aside = record { header = aside.header; is = aside.is; older = λ h is opened. (let bad = aside.older h is opened in absurd (omega (arith, bad))) }

pub first_held : (jobs size : ℕ) → InPoolRange size jobs → IsPoolHeader (first_header jobs size)
first_held jobs size ranges = record { generation = omega arith; generation_held = omega arith; ranges = ranges }

made_current : (h : PoolHeader) (s : Store) (list : List (List ℕ)) (text : List ℕ) → IsPoolHeader h → h.gate_open ≡ true → h.generation ≡ 1 → s.one ≡ pool_head h ++ 165 ∷ text → IsAside Two 0 s.two → IsPool h list (pool_head h ++ 165 ∷ text) → HasPool One h list s
made_current h s list text held gate first out aside good =
    let there = subst (IsPool h list) (sym out) good in
    let beside = subst (λ (n : ℕ). IsAside Two n s.two) (sym first) (aside_of_first Two s.two aside) in
    (text_good s (One, h) (current_with One h s not_output gate (out_header One h text s.one held gate out) beside) (text_is_good One h list s.one there), there)

making_of : (h : PoolHeader) (d s : Store) (bytes text : List ℕ) (list : List (List ℕ)) → IsPoolHeader h → h.gate_open ≡ true → h.generation ≡ 1 → pool_in d ≡ Ok None → s ≡ with_file One bytes d → IsAsideOrOut One h 0 text bytes → IsPool h list (pool_head h ++ 165 ∷ text) → IsMaking h list d s
making_of h d s bytes text list held gate first none same left good =
    let was = none_open d none in
    let mine : s.one ≡ bytes = ap (λ (x : Store). x.one) same in
    let theirs : s.two ≡ d.two = ap (λ (x : Store). x.two) same in
    let aside = subst (IsAside Two 0) (sym theirs) was.two in
    record {
      output = ap (λ (x : Store). x.output) same;
      aside = theirs;
      current = ⊎_elim
          (λ closed. inl (none_there s (subst (IsAside One 0) (sym mine) closed) aside))
          (λ out. inr (made_current h s list text held gate first (mine ∙ out) aside good))
          left;
    }

pub making : (h : PoolHeader) (old new : View) (text : List ℕ) (list : List (List ℕ)) → IsPoolHeader h → h.gate_open ≡ true → h.generation ≡ 1 → ((c : Store) → old.may_leave c → pool_in c ≡ Ok None) → Puts One h 0 text old new → IsPool h list (pool_head h ++ 165 ∷ text)
    → LeavesOnly old new (Among old.may_leave (IsMaking h list))
making h old new text list held gate first none run good =
    weaken old new (Among old.may_leave (IsMaking h list)) (Among old.may_leave (On One (λ _ bytes. IsAsideOrOut One h 0 text bytes))) run
    (λ s from. (from.0, from.1, making_of h from.0 s from.2.0 text list held gate first (none from.0 from.1) from.2.2 from.2.1 good))

pub made_stands : (h : PoolHeader) (old new : View) (text : List ℕ) (list : List (List ℕ)) → IsPoolHeader h → h.gate_open ≡ true → h.generation ≡ 1 → ((c : Store) → old.may_leave c → pool_in c ≡ Ok None) → IsOut One h new text → OnlyFile One old new → IsPool h list (pool_head h ++ 165 ∷ text)
    → StandsOn (record { file = One; header = h }) new × IsPool h list (file_of One new.seen)
made_stands h old new text list held gate first none out only good =
    let there = subst (IsPool h list) (sym out.reads) good in (
      record {
        image_file = not_output;
        gate = gate;
        header = out_header One h text (file_of One new.seen) held gate out.reads;
        text = text_is_good One h list (file_of One new.seen) there;
        lasting = λ c left. out.left c left ∙ sym out.reads;
        aside = λ c left.
            let from = (only Two (λ e. not_two (sym e))).only c left in
            let was = none_open from.0 (none from.0 from.1) in
            subst (λ (n : ℕ). IsAside Two n c.two) (sym first) (aside_of_first Two c.two (subst (IsAside Two 0) (sym from.2) was.two));
      },
      there,
    )

pub none_aside : (old : View) → ((c : Store) → old.may_leave c → pool_in c ≡ Ok None) → (c : Store) → old.may_leave c → IsAside One 0 (file_of One c)
none_aside old none c left = (none_open c (none c left)).one

-- ---- the output file

-- file One made lasting, and then file Two
pub synced_output : {T E T' E' : Type 0} (old mid new : View) (result : Result T E) (next : Result T' E') → IsTrue old.tells → Changes One Sync result old mid → Changes Two Sync next mid new → SameFile Output old new
synced_output old mid new result next tells first second =
    stays_twice Output old mid new (others_stay One Output Sync result old mid one_image tells first) (others_stay Two Output Sync next mid new two_image (subst IsTrue (sym first.tells) tells) second)

pub looked_output : (old mid new : View) → IsTrue mid.tells → SameFile Output old mid → Untouched mid new → SameFile Output old new
looked_output old mid new tells so_far looked = stays_twice Output old mid new so_far (untouched_file Output mid new tells looked)

pub two_not_one : Two ≢ One
two_not_one e = cc

pub output_not_one : Output ≢ One
output_not_one e = cc
