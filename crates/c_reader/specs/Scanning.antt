-- What the scan of the code answers, beside the scan of the definitions.
use Rattle.std.specs.Prelude.{◌≡◌, Result, Ok, Err, List, ◌++◌, length, Option, Some, None, ℕ, ◌&&◌, ◌+◌, ◌*◌, ◌-◌, ◌<◌, ◌≤◌, nat_le, if◌then◌else◌}
use Rattle.c_tree.specs.declared.token.Piece.{Piece}
use Rattle.c_tree.specs.declared.token.Piece.TheVariants as piece
use Rattle.c_tree.specs.Scan.{Scan, Scanned, Spoiled, BadByte, BadNumber, UnendedComment, is_digit, are_digits, decimal, greatest}
use Rattle.c_tree.specs.Scan as spec
use Rattle.c_reader.specs.declared.fault.ReadFault.{ReadFault}
use Rattle.c_reader.specs.declared.fault.ReadFault.TheVariants as fault
use Rattle.c_reader.specs.declared.scan.Scanned.{Scanned as Found}
use Rattle.c_reader.specs.declared.here.Here.{Here}

-- the fault is that of the scan, at its place
abbrev pub FailsScan : ReadFault → Scan → Type 0
FailsScan fault.Memory r = Unit {0}
FailsScan (fault.BadByte n) r = r ≡ Err (BadByte n)
FailsScan (fault.BadNumber n) r = r ≡ Err (BadNumber n)
FailsScan fault.UnendedComment r = r ≡ Err UnendedComment
FailsScan _ r = ⊥

-- the tokens and the constants that were found
abbrev pub found : Found → Scanned
found s = record { tokens = s.tokens; constants = s.constants }

-- the scan's answer, unless no memory was found
abbrev pub GivesScan : Result Found ReadFault → Scan → Type 0
GivesScan (Ok s) r = r ≡ Ok (found s)
GivesScan (Err e) r = FailsScan e r

-- how far the code has taken a text apart
abbrev pub here : Here → spec.Here
here h = record { place = h.place; spot = record { line = h.line; constants = h.constants }; fresh = h.fresh }

-- the tokens and the constants so far, and then those of the rest
abbrev pub with_rest : Found → Scan → Scan
with_rest s (Ok r) = Ok (record { tokens = s.tokens ++ r.tokens; constants = s.constants ++ r.constants })
with_rest s (Err e) = Err e

-- so many bytes are left of a text that is not too long, and there are no more lines and constants than bytes
pub record IsWithin (h : Here) (left : ℕ) : Type 0 where
  pub place : h.place + left ≤ 262144
  pub line : h.line ≤ h.place + 1
  pub constants : h.constants ≤ h.place

-- the piece at the front was taken, and has n bytes
pub record Moved (old new : Found) (rest : List ℕ) (n : ℕ) : Type 0 where
  pub some : 0 < n
  pub most : n ≤ length rest
  pub within : IsWithin new.here (length rest - n)
  pub same : (go : spec.Here → ℕ → Scan) → with_rest old (spec.step (spec.piece rest) (here old.here) rest go) ≡ with_rest new (go (here new.here) n)

-- the piece at the front has this fault
abbrev pub Stops : Found → List ℕ → ReadFault → Type 0
Stops old rest e = (go : spec.Here → ℕ → Scan) → FailsScan e (with_rest old (spec.step (spec.piece rest) (here old.here) rest go))

-- a number with one more digit
abbrev pub with_digit : ℕ → ℕ → Option ℕ
with_digit v b = if is_digit b && nat_le (v * 10 + (b - 48)) greatest then Some (v * 10 + (b - 48)) else None

-- the number that digits spell after the number v
abbrev pub number_from : ℕ → List ℕ → Option ℕ
number_from v bs = if are_digits bs && nat_le (decimal v bs) greatest then Some (decimal v bs) else None

-- a piece has a byte or more, and no more than there are; what it ends and skips is within it
abbrev pub Takes : Piece → ℕ → Type 0
Takes (piece.Blank n m) len = (0 < n) × (n ≤ len) × (m ≤ n)
Takes (piece.Is x n) len = (0 < n) × (n ≤ len)
Takes (piece.BadByte n) len = n ≤ len
Takes _ len = Unit {0}
