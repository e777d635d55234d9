-- A file in memory, and what a crash may leave of it.
use Rattle.std.specs.Prelude.{◌≡◌, ℕ, ◌+◌, ◌-◌, ◌<◌, ◌≤◌, min, max, nat_lt, Bool, true, false, if◌then◌else◌, List, ◌++◌, length, take, drop, replicate, get_or, map, not, ◌&&◌, ◌==◌}
use Rattle.std.specs.List.{range_with_len}
use Rattle.disk_model.specs.Change.{Change, Write, Cut, Sync, Start, end_of}

-- the bytes as a read gives them, and as they last were on the disk for good; the places that were written since, as many as the file has room; and the least and the greatest length that a crash may leave
pub record FileState : Type 0 where
  pub seen : List ℕ
  pub lasting : List ℕ
  pub dirty : List Bool
  pub low : ℕ
  pub high : ℕ

-- a list of marks for so many places, of which the first are these and no other has one
abbrev pub padded : ℕ → List Bool → List Bool
padded room front = front ++ replicate (room - length front) false

-- A crash leaves some length, and each byte that was not written since the file was last lasting.
pub record MayLeave (s : FileState) (c : List ℕ) : Type 0 where
  pub no_shorter : s.low ≤ length c
  pub no_longer : length c ≤ s.high
  pub kept : (i : ℕ) → i < length s.lasting → i < length c → get_or s.dirty i false ≡ false → get_or c i 0 ≡ get_or s.lasting i 0

-- a file that is lasting as it reads
abbrev pub settled : ℕ → List ℕ → FileState
settled room bytes = record { seen = bytes; lasting = bytes; dirty = replicate room false; low = length bytes; high = length bytes }

-- the file after a change
abbrev pub changed : Change → FileState → FileState
changed (Write at bytes) s = record s {
  seen = take at s.seen ++ bytes ++ drop (at + length bytes) s.seen;
  dirty = take at s.dirty ++ replicate (length bytes) true ++ drop (at + length bytes) s.dirty;
  high = max s.high (at + length bytes);
}
changed (Cut n) s = record s { seen = take n s.seen; low = min s.low n }
changed Sync s = settled (length s.dirty) s.seen
changed (Start header) s = settled (length s.dirty) header

-- What holds of each file. Where one was cut, what was written behind the cut is dirty.
pub record IsFile (s : FileState) : Type 0 where
  pub room : s.high ≤ length s.dirty
  pub low_seen : s.low ≤ length s.seen
  pub seen_high : length s.seen ≤ s.high
  pub low_lasting : s.low ≤ length s.lasting
  pub lasting_high : length s.lasting ≤ s.high
  pub regrown : (i : ℕ) → s.low ≤ i → i < length s.seen → get_or s.dirty i false ≡ true
  pub kept : (i : ℕ) → i < length s.lasting → i < length s.seen → get_or s.dirty i false ≡ false → get_or s.seen i 0 ≡ get_or s.lasting i 0

-- a write begins at most at the end of what a read gives
abbrev pub BeginsWithin : Change → List ℕ → Type 0
BeginsWithin (Write at bytes) seen = at ≤ length seen
BeginsWithin (Cut n) seen = Unit {0}
BeginsWithin Sync seen = Unit {0}
BeginsWithin (Start header) seen = Unit {0}

-- a change that a file takes
abbrev pub IsTaken : Change → FileState → Type 0
IsTaken change s = BeginsWithin change s.seen × (end_of change ≤ length s.dirty)

-- a byte that a crash leaves as it is
abbrev pub is_clean : FileState → ℕ → Bool
is_clean s i = nat_lt i (length s.lasting) && not (get_or s.dirty i false)

-- as reads give it, with each byte that a crash may change set to this one
abbrev pub spoiled : ℕ → FileState → List ℕ
spoiled p s = map (λ i. if is_clean s i then get_or s.seen i 0 else p) (range_with_len 0 (length s.seen))

-- what the crash of a test leaves: as the file was lasting, as it reads, or spoiled
abbrev pub crashed : ℕ → FileState → List ℕ
crashed pick s = if pick == 0 then s.lasting else if pick == 1 then s.seen else spoiled pick s
