-- What is told of a sink, and what a write does to that.
use Rattle.std.specs.Prelude.{◌≡◌, ◌≤◌, ◌+◌, ◌||◌, ◌++◌, ℕ, List, Bool, true, false, IsTrue, length, take, nat_lt, Result, MatchResult, IfOk, if◌then◌else◌}
use Rattle.ckpt_base.specs.Faults.{Counts, counted, is_listed}

-- whether a sink tells what was written, the bytes where it does, and how often it has failed
pub record SinkView : Type 0 where
  pub tells : Bool
  pub written : List ℕ
  pub faults : ℕ

-- A write adds a prefix of the piece: at Ok as many bytes as it answers and at least one, at a failure any number.
pub record Writes {E : Type 0} (piece : List ℕ) (result : Result ℕ E) (old new : SinkView) : Type 0 where
  pub tells : new.tells ≡ old.tells
  pub counts : Counts result old.faults new.faults
  pub number : IfOk result (λ n. (1 ≤ n) × (n ≤ length piece))
  pub bytes : IsTrue old.tells → MatchResult result (λ n. new.written ≡ old.written ++ take n piece) (λ _. (n : ℕ) × (new.written ≡ old.written ++ take n piece))

-- a sink in memory: what was written, the most that it takes, the calls that fail, and how many calls were made and have failed
pub record MemorySink : Type 0 where
  pub written : List ℕ
  pub room : ℕ
  pub failing : List ℕ
  pub calls : ℕ
  pub faults : ℕ

-- what a sink in memory tells
abbrev pub sink_view : MemorySink → SinkView
sink_view s = record { tells = true; written = s.written; faults = s.faults }

-- its next write fails: the call is listed, or the piece would pass the room
abbrev pub write_fails : MemorySink → List ℕ → Bool
write_fails s piece = is_listed s.failing (counted s.calls) || nat_lt s.room (length s.written + length piece)

-- A write takes the whole piece, or fails exactly there.
abbrev pub WritesExactly : {E : Type 0} → MemorySink → List ℕ → Result ℕ E → Type 0
WritesExactly s piece result = MatchResult result (λ n. (write_fails s piece ≡ false) × (n ≡ length piece)) (λ _. write_fails s piece ≡ true)

-- what a write leaves
abbrev pub after_write : MemorySink → List ℕ → MemorySink
after_write s piece = if write_fails s piece then record s { calls = counted s.calls; faults = counted s.faults } else record s { calls = counted s.calls; written = s.written ++ piece }
