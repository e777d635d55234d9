-- A put on a disk, from its call to its answer.
use Rattle.std.proofs.Common.{◌≡◌, ◌≢◌, sym, ◌∙◌, ap, subst, ℕ, ◌<◌, ◌≤◌, IsTrue, List, ◌∷◌, ◌++◌, length, Option}
use Rattle.std.specs.Prelude.{slice_set}
use Rattle.disk_model.specs.declared.disk_file.DiskFile.{DiskFile}
use Rattle.disk_model.specs.declared.disk_file.DiskFile.TheVariants.{Output}
use Rattle.disk_model.specs.Store.{Store, file_of}
use Rattle.disk_model.specs.View.{View, IsDisk, SameFile}
use Rattle.disk_model.specs.Keeps.{Untouched}
use Rattle.disk_model.specs.Moments.{Among, LeavesOnly}
use Rattle.disk_model.proofs.Calls.{joined as runs_joined, among_weaker, stays_twice}
use Rattle.parity_store.specs.Layout.{IsPoolHeader, pool_head, pool_length}
use Rattle.parity_store.specs.Slots.{IsPool, IsPoolBut, AtMostOne}
use Rattle.parity_store.specs.Pools.{pool_header_in, pool_text_in, other, IsAside}
use Rattle.parity_store.specs.OnDisk.{PoolView, StandsOn, file_on, next_header, IsPutting}
use Rattle.parity_store.specs.Writing.{OnlyFile, IsOut, Puts, IsRebuilt, put_text}
use Rattle.parity_store.proofs.MomentLaws.{moments_looked, untouched_file}
use Rattle.parity_store.proofs.LengthLaws.{stands_length}
use Rattle.parity_store.proofs.PutLaws.{put_is_pool}
use Rattle.parity_store.proofs.StandsLaws.{first_moment, other_apart, other_image, next_held, putting, putting_none, put_stands}

pub stands_looked : (pool : PoolView) (v w : View) → IsTrue v.tells → StandsOn pool v → Untouched v w → StandsOn pool w
stands_looked pool v w tells stands looked = record {
  image_file = stands.image_file;
  gate = stands.gate;
  header = ap (λ (s : Store). pool_header_in pool.file (file_of pool.file s)) (looked.seen tells) ∙ stands.header;
  text = ap (λ (s : Store). pool_text_in pool.file pool.header (file_of pool.file s)) (looked.seen tells) ∙ stands.text;
  lasting = λ c left. stands.lasting c ((looked.crash tells c).0 left) ∙ sym (ap (file_of pool.file) (looked.seen tells));
  aside = λ c left. stands.aside c ((looked.crash tells c).0 left);
}

-- the slots were looked at, and the new file may be written
pub record IsReady (pool : PoolView) (v w : View) (k : Option ℕ) (list : List (List ℕ)) (job : ℕ) (bytes : List ℕ) (lost : Option ℕ) (rebuilt : List ℕ) : Type 0 where
  pub tells : IsTrue v.tells
  pub disk : IsDisk v
  pub stands : StandsOn pool v
  pub looked : Untouched v w
  pub held : IsPoolHeader pool.header
  pub free : pool.header.generation < 4294967295
  pub is : IsPoolBut k pool.header list (file_on pool v)
  pub one : AtMostOne pool.header (file_on pool v) lost
  pub rebuilt_is : IsRebuilt pool.header (file_on pool w) lost rebuilt
  pub job_in : job < pool.header.jobs
  pub fits : length bytes ≤ pool.header.size

same_text : (pool : PoolView) (v w : View) → IsTrue v.tells → Untouched v w → file_on pool v ≡ file_on pool w
same_text pool v w tells looked = sym (ap (file_of pool.file) (looked.seen tells))

ready_good : (pool : PoolView) (v w : View) (k : Option ℕ) (list : List (List ℕ)) (job : ℕ) (bytes : List ℕ) (lost : Option ℕ) (rebuilt : List ℕ) → IsReady pool v w k list job bytes lost rebuilt
    → IsPool (next_header pool.header) (slice_set list job bytes) (pool_head (next_header pool.header) ++ 165 ∷ put_text pool.header (file_on pool w) job bytes lost rebuilt)
ready_good pool v w k list job bytes lost rebuilt ready =
    let same = same_text pool v w ready.tells ready.looked in
    put_is_pool k pool.header list (file_on pool w) job bytes lost rebuilt (record {
      pool = subst (IsPoolBut k pool.header list) same ready.is;
      one = subst (λ (file : List ℕ). AtMostOne pool.header file lost) same ready.one;
      is = ready.rebuilt_is;
      job_in = ready.job_in;
      fits = ready.fits;
      held = ready.held;
    })

-- a crash at each moment until the other file is begun
pub looked_moments : (pool : PoolView) (v w : View) (list : List (List ℕ)) → IsTrue v.tells → IsDisk v → StandsOn pool v → Untouched v w → LeavesOnly v w (Among v.may_leave (IsPutting pool list))
looked_moments pool v w list tells disk stands looked = putting_none pool v w list tells disk stands (moments_looked v v w v.may_leave (first_moment v tells disk) looked)

pub ready_moments : (pool : PoolView) (v w x : View) (k : Option ℕ) (list : List (List ℕ)) (job : ℕ) (bytes : List ℕ) (lost : Option ℕ) (rebuilt : List ℕ) → IsReady pool v w k list job bytes lost rebuilt
    → ((g : ℕ) → ((c : Store) → w.may_leave c → IsAside (other pool.file) g (file_of (other pool.file) c)) → Puts (other pool.file) (next_header pool.header) g (put_text pool.header (file_on pool w) job bytes lost rebuilt) w x)
    → LeavesOnly v x (Among v.may_leave (IsPutting pool (slice_set list job bytes)))
ready_moments pool v w x k list job bytes lost rebuilt ready puts =
    let new = slice_set list job bytes in
    let later = stands_looked pool v w ready.tells ready.stands ready.looked in
    let run = putting pool w x (put_text pool.header (file_on pool w) job bytes lost rebuilt) new later (next_held pool.header ready.held ready.free) (puts pool.header.generation later.aside) (ready_good pool v w k list job bytes lost rebuilt ready) in
    runs_joined v w x (Among v.may_leave (IsPutting pool new)) (Among w.may_leave (IsPutting pool new)) (λ _. ready.tells) (looked_moments pool v w new ready.tells ready.disk ready.stands ready.looked) run
    (λ t s from. among_weaker w.may_leave v.may_leave (IsPutting pool new) (λ c left. (ready.looked.crash ready.tells c).0 left) s from)

pub ready_stands : (pool : PoolView) (v w x : View) (k : Option ℕ) (list : List (List ℕ)) (job : ℕ) (bytes : List ℕ) (lost : Option ℕ) (rebuilt : List ℕ) → IsReady pool v w k list job bytes lost rebuilt
    → IsOut (other pool.file) (next_header pool.header) x (put_text pool.header (file_on pool w) job bytes lost rebuilt) → OnlyFile (other pool.file) w x
    → StandsOn (record { file = other pool.file; header = next_header pool.header }) x × IsPool (next_header pool.header) (slice_set list job bytes) (file_of (other pool.file) x.seen)
ready_stands pool v w x k list job bytes lost rebuilt ready out only =
    put_stands pool w x (put_text pool.header (file_on pool w) job bytes lost rebuilt) (slice_set list job bytes) (stands_looked pool v w ready.tells ready.stands ready.looked) (next_held pool.header ready.held ready.free) out only (ready_good pool v w k list job bytes lost rebuilt ready)

-- the output file stays as it was
pub put_output : (f : DiskFile) (v w x : View) → IsTrue v.tells → Untouched v w → OnlyFile (other f) w x → SameFile Output v x
put_output f v w x tells looked only = stays_twice Output v w x (untouched_file Output v w tells looked) (only Output (λ e. other_image f (sym e)))

-- over looks, a pool that stands has a file of its length
pub looked_length : (pool : PoolView) (v w : View) → Untouched v w → (IsTrue v.tells → StandsOn pool v) → IsTrue w.tells → length (file_of pool.file w.seen) ≡ pool_length pool.header
looked_length pool v w looked stands tells =
    let before : IsTrue v.tells = subst IsTrue looked.tells tells in
    stands_length pool w (stands_looked pool v w before (stands before) looked)

-- and so does the file of the entry
pub put_entry : (f : DiskFile) (v w x : View) → f ≢ Output → IsTrue v.tells → Untouched v w → OnlyFile (other f) w x → SameFile f v x
put_entry f v w x image_file tells looked only = stays_twice f v w x (untouched_file f v w tells looked) (only f (other_apart f image_file))
