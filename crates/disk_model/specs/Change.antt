-- The four changes of a file: what a read gives after one, and what a crash may make of it.
use Rattle.std.specs.Prelude.{◌≡◌, ℕ, ◌+◌, ◌≤◌, min, max, List, [], ◌++◌, length, take, drop}

-- bytes written from a place on, a cut to a length, a sync, and a start anew with a header
pub data Change : Type 0 where
  Write : ℕ → List ℕ → Change
  Cut : ℕ → Change
  Sync : Change
  Start : List ℕ → Change

-- the file as it reads after the change
abbrev pub whole : Change → List ℕ → List ℕ
whole (Write at bytes) file = take at file ++ bytes ++ drop (at + length bytes) file
whole (Cut n) file = take n file
whole Sync file = file
whole (Start header) file = header

-- After a write of n bytes: any bytes in its range and past the old end, the same elsewhere, any length from the old to the new.
pub record Torn (at n : ℕ) (old new : List ℕ) : Type 0 where
  pub before : take at new ≡ take at old
  pub after : drop (at + n) new ≡ drop (at + n) old
  pub no_shorter : length old ≤ length new
  pub no_longer : length new ≤ max (length old) (at + n)

-- After a cut to n: it has happened in part, or not at all.
pub record Shortened (n : ℕ) (old new : List ℕ) : Type 0 where
  pub no_shorter : min n (length old) ≤ length new
  pub front : take (length new) old ≡ new

-- What a crash may make of a file after the change, from what it may have left before, where `seen` is what a read gives.
abbrev pub Crashed : Change → List ℕ → List ℕ → List ℕ → Type 0
Crashed (Write at bytes) seen old new = Torn at (length bytes) old new
Crashed (Cut n) seen old new = Shortened n old new
Crashed Sync seen old new = new ≡ seen
Crashed (Start header) seen old new = new ≡ header

-- a change of what reads give
abbrev pub IsNoSync : Change → Type 0
IsNoSync (Write at bytes) = Unit {0}
IsNoSync (Cut n) = Unit {0}
IsNoSync Sync = ⊥
IsNoSync (Start header) = Unit {0}

-- the place that a change writes up to
abbrev pub end_of : Change → ℕ
end_of (Write at bytes) = at + length bytes
end_of (Cut n) = 0
end_of Sync = 0
end_of (Start header) = length header

-- the bytes that a change brings
abbrev pub data_of : Change → List ℕ
data_of (Write at bytes) = bytes
data_of (Cut n) = []
data_of Sync = []
data_of (Start header) = header
