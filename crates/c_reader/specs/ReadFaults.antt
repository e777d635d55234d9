-- The fault of a text that spells no program.
use Rattle.std.specs.Prelude.{◌≡◌, ℕ, ◌+◌, ◌-◌, ◌<◌, ◌≤◌, ◌==◌, List, length, take, count_by, slice_get, Option, Some, None}
use Rattle.c_tree.specs.declared.token.Token.{Token}
use Rattle.c_tree.specs.declared.tree.Program.{Program}
use Rattle.c_tree.specs.Scan.{Scanned, Scans, IsSpoiled, BadByte, BadNumber, UnendedComment}
use Rattle.c_tree.specs.Programs.{longest, IsTextOf}
use Rattle.c_reader.specs.declared.fault.ReadFault.{ReadFault}
use Rattle.c_reader.specs.declared.fault.ReadFault.TheVariants as fault

-- The text has this fault: it is too long, or else the scan finds its first fault there, or else its tokens spell no program. The
-- line of a syntax fault is left open here; want of memory may come at any text.
abbrev pub IsReadFault : List ℕ → ReadFault → Type 0
IsReadFault text fault.Memory = Unit {0}
IsReadFault text (fault.TooLong n) = (longest < length text) × (n ≡ length text)
IsReadFault text (fault.BadByte n) = (length text ≤ longest) × IsSpoiled text (BadByte n)
IsReadFault text (fault.BadNumber n) = (length text ≤ longest) × IsSpoiled text (BadNumber n)
IsReadFault text fault.UnendedComment = (length text ≤ longest) × IsSpoiled text UnendedComment
IsReadFault text (fault.Syntax line) = (length text ≤ longest) × ((s : Scanned) × Scans text s) × ((p : Program) → IsTextOf p text → ⊥)

-- the line of a byte, or of the end: one more than the newlines before it
abbrev pub line_at : List ℕ → ℕ → ℕ
line_at text place = count_by (λ b. b == 10) (take place text) + 1

abbrev pub line_or : Option Token → ℕ → ℕ
line_or (Some t) line = t.line
line_or None line = line

-- the line of the first of the last so many tokens; where there is none, that of the last byte
abbrev pub line_of : List ℕ → List Token → ℕ → ℕ
line_of text ts left = line_or (slice_get ts (length ts - left)) (line_at text (length text - 1))
