-- What is told of a shelf, and what its calls do to that.
use Rattle.std.specs.Prelude.{◌≡◌, ◌≤◌, ◌↔◌, ◌++◌, ℕ, List, [], ◌∷◌, Bool, true, false, IsTrue, length, take, drop, Option, Some, None, is_some, Result, MatchResult, MatchBool, IfOk, OnErr, unwrap_or, if◌then◌else◌}
use Rattle.std.specs.Option.{option_map}
use Rattle.std.specs.Str.{bytes_eq}
use Rattle.ckpt_base.specs.Faults.{Counts, counted, is_listed}

-- a file: its name and its bytes
pub record File : Type 0 where
  pub name : List ℕ
  pub bytes : List ℕ

-- the bytes of the first file of that name
abbrev pub file_named : List File → List ℕ → Option (List ℕ)
file_named [] name = None
file_named (f ∷ fs) name = if bytes_eq f.name name then Some f.bytes else file_named fs name

-- whether a shelf tells its files, the files where it does, whether one is open, what is left of that one, and how often the shelf has failed
pub record ShelfView : Type 0 where
  pub tells : Bool
  pub files : List File
  pub is_open : Bool
  pub rest : List ℕ
  pub faults : ℕ

-- what no call changes
pub record SameShelf (old new : ShelfView) : Type 0 where
  pub tells : new.tells ≡ old.tells
  pub files : new.files ≡ old.files

-- An open finds the file at its first byte, or tells that there is none of that name. Where files are not told it finds one or fails.
pub record Opens {E : Type 0} (name : List ℕ) (result : Result Bool E) (old new : ShelfView) : Type 0 where
  pub same : SameShelf old new
  pub counts : Counts result old.faults new.faults
  pub is_open : MatchResult result (λ found. new.is_open ≡ found) (λ _. new.is_open ≡ false)
  pub found : IsTrue old.tells → IfOk result (λ found. MatchBool found (file_named old.files name ≡ Some new.rest) (file_named old.files name ≡ None))
  pub untold : old.tells ≡ false → IfOk result (λ found. IsTrue found)

-- A read moves the next bytes, and none exactly at the end. A failure leaves what is left.
pub record Reads {E : Type 0} (buffer : List ℕ) (result : Result ℕ E) (old new : ShelfView) (filled : List ℕ) : Type 0 where
  pub same : SameShelf old new
  pub counts : Counts result old.faults new.faults
  pub is_open : IsTrue new.is_open
  pub number : IfOk result (λ n. n ≤ length buffer)
  pub bytes : IsTrue old.tells → IfOk result (λ n. old.rest ≡ take n filled ++ new.rest)
  pub at_end : IsTrue old.tells → IfOk result (λ n. (n ≡ 0) ↔ (old.rest ≡ []))
  pub failed : IsTrue old.tells → OnErr result (new.rest ≡ old.rest)

-- a shelf in memory: its files, what is left of the open one, the calls that fail, and how many calls were made and have failed
pub record MemoryShelf : Type 0 where
  pub files : List File
  pub rest : Option (List ℕ)
  pub failing : List ℕ
  pub calls : ℕ
  pub faults : ℕ

-- what a shelf in memory tells
abbrev pub shelf_view : MemoryShelf → ShelfView
shelf_view s = record { tells = true; files = s.files; is_open = is_some s.rest; rest = unwrap_or s.rest []; faults = s.faults }

-- its next call fails
abbrev pub call_fails : MemoryShelf → Bool
call_fails s = is_listed s.failing (counted s.calls)

-- what a failing call leaves, with this left of a file
abbrev pub after_failure : MemoryShelf → Option (List ℕ) → MemoryShelf
after_failure s rest = record s { rest = rest; calls = counted s.calls; faults = counted s.faults }

-- what a call that does not fail leaves, with this left of a file
abbrev pub after_call : MemoryShelf → Option (List ℕ) → MemoryShelf
after_call s rest = record s { rest = rest; calls = counted s.calls }

-- what an open leaves
abbrev pub after_open : MemoryShelf → List ℕ → MemoryShelf
after_open s name = if call_fails s then after_failure s None else after_call s (file_named s.files name)

-- what a read into a buffer of that length leaves
abbrev pub after_read : MemoryShelf → ℕ → MemoryShelf
after_read s room = if call_fails s then after_failure s s.rest else after_call s (option_map (drop room) s.rest)
