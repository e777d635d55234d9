-- How an output stands, and what its calls make of that.
use Rattle.std.specs.Prelude.{ℕ, ◌+◌, ◌==◌, Bool, false, true, if◌then◌else◌, List, [], ◌∷◌, ◌++◌, length}

-- whether it has begun; how many bytes were written from the file's front on, and how many of them are lasting; and the bytes that wait to be written
pub record Pushed : Type 0 where
  pub begun : Bool
  pub written : ℕ
  pub lasting : ℕ
  pub waiting : List ℕ

-- how many bytes there are from the file's front on, those that wait included
abbrev pub length_of : Pushed → ℕ
length_of o = o.written + length o.waiting

-- an output that has not begun
abbrev pub not_begun : Pushed
not_begun = record { begun = false; written = 0; lasting = 0; waiting = [] }

-- one that has begun behind n bytes
abbrev pub begun_behind : ℕ → Pushed
begun_behind n = record { begun = true; written = n; lasting = n; waiting = [] }

-- the waiting bytes are written
abbrev pub written_out : Pushed → Pushed
written_out o = record o { written = length_of o; waiting = [] }

-- they are written where no more may wait
abbrev pub with_room : Pushed → Pushed
with_room o =
    let full = length o.waiting == 65536 in
    record o { written = if full then length_of o else o.written; waiting = if full then [] else o.waiting }

-- one byte more
abbrev pub pushed : ℕ → Pushed → Pushed
pushed b o = record (with_room o) { waiting = (with_room o).waiting ++ b ∷ [] }

-- all bytes are written and lasting
abbrev pub flushed : Pushed → Pushed
flushed o = record o { written = length_of o; lasting = length_of o; waiting = [] }
