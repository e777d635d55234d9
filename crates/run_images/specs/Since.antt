-- What the events of a run leave for its next image.
use Rattle.std.specs.Prelude.{ℕ, ◌+◌, ◌/◌, Bool, true, false, ◌==◌, ◌&&◌, ◌||◌, nat_lt, nat_le, if◌then◌else◌, List, [], ◌∷◌}
use Rattle.std.specs.List.{list_any}
use Rattle.ckpt_base.specs.Event.{Event, Wrote, Byte, Took, Excluded, Checkpoint}

-- where the newest image stands, and what the events since then were
pub record Since : Type 0 where
  -- the number of the newest image, 0 for none, and the ticks at its checkpoint
  pub number : ℕ
  pub newest_tick : ℕ
  -- the cells that were written since that image
  pub written : List ℕ
  -- the directive in force, 0 for none; and whether an image was taken since it was executed
  pub directive : ℕ
  pub included : Bool
  -- how many bytes of the input were taken, and how many of the output written, since the start of the program
  pub input_place : ℕ
  pub output_length : ℕ

-- before the first event
abbrev pub at_first : Since
at_first = record { number = 0; newest_tick = 0; written = []; directive = 0; included = false; input_place = 0; output_length = 0 }

-- A checkpoint that is passed at this tick takes an image: there is none yet, or at least `every` steps lie behind the newest; and a number is left.
-- (A checkpoint is passed behind its own tick, so some step always lies behind the newest image, or the start.)
abbrev pub is_due : ℕ → Since → ℕ → Bool
is_due every s tick = nat_lt s.newest_tick tick && (((s.number == 0) || nat_le (s.newest_tick + every) tick) && nat_lt s.number 4294967295)

-- after one event more
abbrev pub with_event : ℕ → Event → Since → Since
with_event every (Wrote c) s = record s { written = c ∷ s.written }
with_event every (Byte b) s = record s { output_length = s.output_length + 1 }
with_event every Took s = record s { input_place = s.input_place + 1 }
with_event every (Excluded k) s = record s { directive = k; included = false }
with_event every (Checkpoint node tick) s = if is_due every s tick then record s { number = s.number + 1; newest_tick = tick; written = []; included = true } else s

-- after these events
abbrev pub since_after : ℕ → List Event → Since → Since
since_after every [] s = s
since_after every (e ∷ es) s = since_after every es (with_event every e s)

-- whether the cell was written since the newest image; where there is none each counts as written
abbrev pub is_fresh : Since → ℕ → Bool
is_fresh s c = (s.number == 0) || list_any (λ d. d == c) s.written

-- whether a cell of the page was
abbrev pub is_page_fresh : Since → ℕ → Bool
is_page_fresh s page = (s.number == 0) || list_any (λ d. d / 512 == page) s.written
