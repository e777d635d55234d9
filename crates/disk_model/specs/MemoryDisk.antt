-- A disk in memory: what it tells, what its calls do, and what its fuse and its crash leave.
use Rattle.std.specs.Prelude.{◌≡◌, ◌⊎◌, ℕ, ◌+◌, ◌-◌, ◌<◌, ◌≤◌, ◌==◌, ◌||◌, ◌&&◌, nat_lt, Bool, true, false, IsTrue, if◌then◌else◌, List, [], ◌∷◌, ◌++◌, length, take, Option, Some, None, Result, MatchResult}
use Rattle.std.proofs.Common.{inl, inr, ⊎_elim, refl, arith}
use Rattle.ckpt_base.specs.Faults.{counted, is_listed}
use Rattle.disk_model.specs.declared.disk_file.DiskFile.{DiskFile}
use Rattle.disk_model.specs.declared.disk_file.DiskFile.TheVariants.{Output, One, Two}
use Rattle.disk_model.specs.declared.memory_files.MemFiles.{MemFiles}
use Rattle.disk_model.specs.Store.{Store, file_of, with_file}
use Rattle.disk_model.specs.Change.{Change, Write, Cut, Sync, Start, end_of, data_of}
use Rattle.disk_model.specs.View.{View, IsDisk}
use Rattle.disk_model.specs.MemoryFile.{FileState, MayLeave, settled, changed, crashed, IsFile}

-- the states of the three files
abbrev pub Files : Type 0
Files = MemFiles

abbrev pub state_of : DiskFile → Files → FileState
state_of Output m = m.output
state_of One m = m.one
state_of Two m = m.two

abbrev pub with_state : DiskFile → FileState → Files → Files
with_state Output s m = record m { output = s }
with_state One s m = record m { one = s }
with_state Two s m = record m { two = s }

-- what reads give of them
abbrev pub bytes_of : Files → Store
bytes_of m = record { output = m.output.seen; one = m.one.seen; two = m.two.seen }

-- each file as a crash may leave it
pub record AllLeft (m : Files) (c : Store) : Type 0 where
  pub output : MayLeave m.output c.output
  pub one : MayLeave m.one c.one
  pub two : MayLeave m.two c.two

pub record AreFiles (m : Files) : Type 0 where
  pub output : IsFile m.output
  pub one : IsFile m.one
  pub two : IsFile m.two

-- a change of a file
abbrev pub Event : Type 0
Event = DiskFile × Change

abbrev pub apply : Event → Files → Files
apply event m = with_state event.0 (changed event.1 (state_of event.0 m)) m

abbrev pub after : List Event → Files → Files
after [] m = m
after (event ∷ events) m = after events (apply event m)

-- The files as they stand and as they began; a start that the fuse left pending; whether the disk keeps its changes, those that it kept, and the room that is left for more; how often it has failed and was called, and the calls that are to fail; the change call at which the fuse acts, counted from now, or 0; and whether it has acted.
pub record MemoryDisk : Type 0 where
  pub files : Files
  pub first : Files
  pub pending : Option (DiskFile × List ℕ)
  pub keeps : Bool
  pub events : List Event
  pub log_left : ℕ
  pub faults : ℕ
  pub calls : ℕ
  pub failing : List ℕ
  pub fuse : ℕ
  pub blown : Bool

-- a start that is pending reads as if it were done
abbrev pub with_pending : Option (DiskFile × List ℕ) → Store → Store
with_pending None s = s
with_pending (Some start) s = with_file start.0 start.1 s

-- what reads give
abbrev pub reads_of : MemoryDisk → Store
reads_of m = with_pending m.pending (bytes_of m.files)

-- Each file as it reads, or as a crash may leave it.
abbrev pub may_leave_now : Store → Files → Store → Type 0
may_leave_now reads files c = (f : DiskFile) → (file_of f c ≡ file_of f reads) ⊎ MayLeave (state_of f files) (file_of f c)

-- as a crash left them after the first k changes, which is before now
pub record LeftThen (first : Files) (events : List Event) (t : ℕ) (c : Store) : Type 0 where
  pub k : ℕ
  pub since : t ≤ k
  pub earlier : k < length events
  pub left : AllLeft (after (take k events) first) c

-- what a disk in memory tells
abbrev pub view_of : MemoryDisk → View
view_of m = record {
  tells = true;
  tells_past = m.keeps;
  seen = reads_of m;
  may_leave = may_leave_now (reads_of m) m.files;
  moment = length m.events;
  left_since = λ t c. may_leave_now (reads_of m) m.files c ⊎ LeftThen m.first m.events t c;
  faults = m.faults;
}

-- a file has room for the start that is pending
abbrev pub HasRoomFor : Option (DiskFile × List ℕ) → Files → Type 0
HasRoomFor None m = Unit {0}
HasRoomFor (Some start) m = length start.1 ≤ length (state_of start.0 m).dirty

-- What holds of each: the changes that it kept lead from the files as they began to those that stand, and a start is pending only where the fuse has acted.
pub record IsSound (m : MemoryDisk) : Type 0 where
  pub are_files : AreFiles m.files
  pub replayed : IsTrue m.keeps → after m.events m.first ≡ m.files
  pub pending : m.blown ≡ false → m.pending ≡ None
  pub start_fits : HasRoomFor m.pending m.files

-- an empty store
abbrev pub empty_files : ℕ → ℕ → Files
empty_files output_room image_room = record { output = settled output_room []; one = settled image_room []; two = settled image_room [] }

abbrev pub empty_disk : ℕ → ℕ → ℕ → List ℕ → MemoryDisk
empty_disk output_room image_room log_room failing = record {
  files = empty_files output_room image_room;
  first = empty_files output_room image_room;
  pending = None;
  keeps = nat_lt 0 log_room;
  events = [];
  log_left = log_room;
  faults = 0;
  calls = 0;
  failing = failing;
  fuse = 0;
  blown = false;
}

-- the next call fails, whatever it is: the fuse has acted, or the call is listed
abbrev pub call_fails : MemoryDisk → Bool
call_fails m = m.blown || is_listed m.failing (counted m.calls)

-- the change would pass the room of its file, or of the log
abbrev pub passes_room : MemoryDisk → DiskFile → Change → Bool
passes_room m f change = nat_lt (length (state_of f m.files).dirty) (end_of change) || (m.keeps && nat_lt m.log_left (32 + length (data_of change)))

-- the change call fails and changes nothing
abbrev pub is_refused : MemoryDisk → DiskFile → Change → Bool
is_refused m f change = call_fails m || passes_room m f change

-- the change call fails: it is refused, or the fuse acts in it
abbrev pub change_fails : MemoryDisk → DiskFile → Change → Bool
change_fails m f change = is_refused m f change || (m.fuse == 1)

-- a call fails exactly there
abbrev pub FailsExactly : {T E : Type 0} → Bool → Result T E → Type 0
FailsExactly fails result = MatchResult result (λ _. fails ≡ false) (λ _. fails ≡ true)

-- the counts after a call
abbrev pub after_call : Bool → MemoryDisk → MemoryDisk
after_call fails m = record m { calls = counted m.calls; faults = if fails then counted m.faults else m.faults }

-- what a call leaves that changes nothing
abbrev pub after_look : MemoryDisk → MemoryDisk
after_look m = after_call (call_fails m) m

-- the counts after a change call, and the fuse
abbrev pub after_change_call : Bool → MemoryDisk → MemoryDisk
after_change_call fails m = record (after_call fails m) { fuse = m.fuse - 1; blown = m.blown || (m.fuse == 1) }

-- the change is made, and kept
abbrev pub made : DiskFile → Change → MemoryDisk → MemoryDisk
made f change m = record m {
  files = apply (f, change) m.files;
  events = if m.keeps then m.events ++ (f, change) ∷ [] else m.events;
  log_left = if m.keeps then m.log_left - (32 + length (data_of change)) else m.log_left;
}

-- The fuse leaves the change pending: a write or a cut is made, a sync is not, and a start stands beside what was lasting.
abbrev pub left_pending : DiskFile → Change → MemoryDisk → MemoryDisk
left_pending f (Write at bytes) m = made f (Write at bytes) m
left_pending f (Cut n) m = made f (Cut n) m
left_pending f Sync m = m
left_pending f (Start header) m = record m { pending = Some (f, header) }

-- what a change call leaves
abbrev pub after_change : DiskFile → Change → MemoryDisk → MemoryDisk
after_change f change m =
    let next = after_change_call (change_fails m f change) m in
    if is_refused m f change then next else if m.fuse == 1 then left_pending f change next else made f change next

-- each file for good as the crash leaves it
abbrev pub crashed_files : ℕ → Files → Files
crashed_files pick m = record {
  output = settled (length m.output.dirty) (crashed pick m.output);
  one = settled (length m.one.dirty) (crashed pick m.one);
  two = settled (length m.two.dirty) (crashed pick m.two);
}

-- a start that is pending is undone by pick 0, and done whole by every other
abbrev pub started : ℕ → Option (DiskFile × List ℕ) → Files → Files
started pick None m = m
started pick (Some start) m = if pick == 0 then m else apply (start.0, Start start.1) m

-- what a crash leaves: what was pending and the fuse are ended, and the past is not told any more
abbrev pub after_crash : ℕ → MemoryDisk → MemoryDisk
after_crash pick m = record m { files = crashed_files pick (started pick m.pending m.files); pending = None; keeps = false; fuse = 0; blown = false }

-- The laws of a disk hold of each state.
pub lawful : (m : MemoryDisk) → IsDisk (view_of m)
lawful m = record {
  seen_stays = λ f. inl refl;
  apart = λ f c d left other g. apart f g c d (left g) (other g);
  now = λ p t c le left. inl left;
  only_now = λ p c left. ⊎_elim (λ now. now) (λ (was : LeftThen m.first m.events (length m.events) c). let a = was.since in let b = was.earlier in absurd (omega (arith, a, b))) left;
  earlier = λ p s t c le left. ⊎_elim (λ now. inl now) (λ (was : LeftThen m.first m.events t c). let a = was.since in inr (record { k = was.k; since = omega (arith, a, le); earlier = was.earlier; left = was.left })) left;
}
  where
    Kept : DiskFile → Store → Type 0
    Kept g c = (file_of g c ≡ file_of g (reads_of m)) ⊎ MayLeave (state_of g m.files) (file_of g c)

    apart : (f g : DiskFile) (c d : Store) → Kept g c → Kept g d → Kept g (with_file f (file_of f c) d)
    apart Output Output c d left other = left
    apart Output One c d left other = other
    apart Output Two c d left other = other
    apart One Output c d left other = other
    apart One One c d left other = left
    apart One Two c d left other = other
    apart Two Output c d left other = other
    apart Two One c d left other = other
    apart Two Two c d left other = left
