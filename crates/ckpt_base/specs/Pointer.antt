-- Words that are pointers: place k of object o is the word (o + 1) * 2^32 + k, and 0 is null.
use Rattle.std.specs.Prelude.{ℕ, ◌+◌, ◌-◌, ◌*◌, ◌/◌, ◌%◌, ◌^◌, ℤ, pos, negsuc, ◌+ℤ◌, List, Option, Some, None, Result, Ok, Err, if◌then◌else◌, ◌==◌, nat_lt, nat_le, slice_get}
use Rattle.ckpt_base.specs.declared.trap.Trap.{Trap}
use Rattle.ckpt_base.specs.declared.trap.Trap.TheVariants.{OutsideObject, NullPointer}

-- where an object stands in memory: its first cell and its length
abbrev pub Object : Type 0
Object = ℕ × ℕ

abbrev pub first_cell : Object → ℕ
first_cell o = o.0

abbrev pub object_length : Object → ℕ
object_length o = o.1

-- the pointer to place k of object o
abbrev pub pointer_word : ℕ → ℕ → ℕ
pointer_word o k = (o + 1) * 2 ^ 32 + k

-- the place that a pointer names
abbrev pub place_of : ℕ → ℕ
place_of p = p % 2 ^ 32

-- the object that a word names, if any
abbrev pub object_of : List Object → ℕ → Option Object
object_of objects p = if p / 2 ^ 32 == 0 then None else slice_get objects (p / 2 ^ 32 - 1)

-- the same object at another place, which may be its end
abbrev pub at_place : ℕ → ℕ → ℤ → Result ℕ Trap
at_place p len (pos k) = if nat_le k len then Ok (p / 2 ^ 32 * 2 ^ 32 + k) else Err OutsideObject
at_place p len (negsuc k) = Err OutsideObject

abbrev pub moved_in : Option Object → ℕ → ℤ → Result ℕ Trap
moved_in None p n = Err OutsideObject
moved_in (Some o) p n = if nat_le (place_of p) (object_length o) then at_place p (object_length o) (pos (place_of p) +ℤ n) else Err OutsideObject

-- a pointer moved by n places
abbrev pub moved : List Object → ℕ → ℤ → Result ℕ Trap
moved objects p n = if p == 0 then Err NullPointer else moved_in (object_of objects p) p n

abbrev pub cell_in : Option Object → ℕ → Result ℕ Trap
cell_in None p = Err OutsideObject
cell_in (Some o) p = if nat_lt (place_of p) (object_length o) then Ok (first_cell o + place_of p) else Err OutsideObject

-- the cell that a pointer names
abbrev pub cell_of : List Object → ℕ → Result ℕ Trap
cell_of objects p = if p == 0 then Err NullPointer else cell_in (object_of objects p) p
