-- What the reader of the code answers, beside the reader on lists.
use Rattle.std.specs.Prelude.{◌≡◌, Option, Some, None, Result, Ok, Err}
use Rattle.c_reader.specs.declared.look.Fault.{Fault}
use Rattle.c_reader.specs.declared.look.Fault.TheVariants.{Memory, Unexpected}

abbrev pub Fails : {Y : Type 0} → Fault → Option Y → Type 0
Fails Memory read = Unit {0}
Fails (Unexpected left) read = read ≡ None

-- What was read, seen by view, is what reading gives, unless no memory was found.
abbrev pub Gives : {X Y : Type 0} → (X → Y) → Result X Fault → Option Y → Type 0
Gives view (Ok x) read = read ≡ Some (view x)
Gives view (Err e) read = Fails e read
