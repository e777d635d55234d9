-- States of a run, the values of expressions, and what single statements do to a state.
use Rattle.std.specs.Prelude.{ℕ, ◌+◌, ◌-◌, ◌%◌, ◌^◌, ℤ, negsuc, neg_ℤ, not, if◌then◌else◌, List, [], ◌∷◌, ◌++◌, length, map, replicate, Option, Some, None, Result, Ok, Err, slice_index_or, slice_set}
use Rattle.std.specs.Fmt.{signed_decimal}
use Rattle.ckpt_base.specs.declared.trap.Trap.{Trap}
use Rattle.ckpt_base.specs.Word.{signed, word_of, word_sum, word_difference, word_product, word_negation, word_quotient, word_remainder, word_left_shift, word_right_shift, word_and, word_or, word_xor, word_inverse, word_less, word_at_most, word_equal, word_holds, truth_word, word_low_byte}
use Rattle.ckpt_base.specs.Pointer.{Object, pointer_word, moved, cell_of}
use Rattle.ckpt_base.specs.Event.{Event, Byte, Wrote, Took, Excluded, Checkpoint}
use Rattle.c_tree.specs.declared.tree.PrintPiece.{PrintPiece}
use Rattle.c_tree.specs.declared.tree.PrintPiece.TheVariants as print
use Rattle.c_tree.specs.declared.resolved.Direction.{Direction}
use Rattle.c_tree.specs.declared.resolved.Direction.TheVariants.{Forward, Back}
use Rattle.c_tree.specs.declared.resolved.RUnary.{RUnary}
use Rattle.c_tree.specs.declared.resolved.RUnary.TheVariants as unary'
use Rattle.c_tree.specs.declared.resolved.RBinary.{RBinary}
use Rattle.c_tree.specs.declared.resolved.RBinary.TheVariants as binary'
use Rattle.c_tree.specs.declared.resolved.RExpr.{RExpr}
use Rattle.c_tree.specs.declared.resolved.RExpr.TheOpen.{RExpr-F}
use Rattle.c_tree.specs.declared.resolved.RExpr.TheFolds.{fold-RExpr}
use Rattle.c_tree.specs.declared.resolved.RPlace.{RPlace}
use Rattle.c_tree.specs.declared.resolved.RPlace.TheVariants as place
use Rattle.c_tree.specs.declared.resolved.RAssign.{RAssign}
use Rattle.c_tree.specs.declared.resolved.RInit.{RInit}
use Rattle.c_tree.specs.declared.resolved.RInit.TheVariants as init
use Rattle.c_tree.specs.declared.resolved.Resolved.{Resolved}
use Rattle.c_tree.specs.Layout.{objects, first_words}

-- where the program's objects stand, the words of its cells, and those of the innermost call's locals
pub record Variables : Type 0 where
  pub objects : List Object
  pub cells : List ℕ
  pub locals : List ℕ

-- the variables, the input that was not yet taken, the events so far and the ticks so far
pub record State : Type 0 where
  pub variables : Variables
  pub input : List ℕ
  pub events : List Event
  pub ticks : ℕ

-- ---- expressions

-- a word, or the trap that evaluating it comes to
abbrev pub Value : Type 0
Value = Variables → Result ℕ Trap

infixl 10 ◌>>=◌
-- goes on with what there is, or traps
abbrev pub ◌>>=◌ : {A B : Type 0} → Result A Trap → (A → Result B Trap) → Result B Trap
(Ok x) >>= f = f x
(Err t) >>= f = Err t

-- a one-sided operator on words (C99 6.5.3.3)
abbrev pub unary : RUnary → ℕ → ℕ
unary unary'.Neg a = word_negation a
unary unary'.Not a = truth_word (not (word_holds a))
unary unary'.Inv a = word_inverse a

-- a two-sided operator on words (C99 6.5.5 to 6.5.12)
abbrev pub binary : RBinary → ℕ → ℕ → Result ℕ Trap
binary binary'.Add a b = Ok (word_sum a b)
binary binary'.Sub a b = Ok (word_difference a b)
binary binary'.Mul a b = Ok (word_product a b)
binary binary'.Div a b = word_quotient a b
binary binary'.Rem a b = word_remainder a b
binary binary'.Shl a b = word_left_shift a b
binary binary'.Shr a b = word_right_shift a b
binary binary'.BitAnd a b = Ok (word_and a b)
binary binary'.BitOr a b = Ok (word_or a b)
binary binary'.BitXor a b = Ok (word_xor a b)
binary binary'.Equal a b = Ok (truth_word (word_equal a b))
binary binary'.Unequal a b = Ok (truth_word (not (word_equal a b)))
binary binary'.Less a b = Ok (truth_word (word_less a b))
binary binary'.AtMost a b = Ok (truth_word (word_at_most a b))
binary binary'.Greater a b = Ok (truth_word (word_less b a))
binary binary'.AtLeast a b = Ok (truth_word (word_at_most b a))

-- by how many places a pointer is moved
abbrev pub places : Direction → ℕ → ℤ
places Forward a = signed a
places Back a = neg_ℤ (signed a)

-- the word of the cell that a pointer names
abbrev pub fetched : ℕ → Value
fetched p vs = cell_of vs.objects p >>= (λ c. Ok (slice_index_or vs.cells c 0))

-- the pointer to place 0 of an object, as a word: no checked program has so many objects that this is another number
abbrev pub object_word : ℕ → ℕ
object_word o = pointer_word o 0 % 2 ^ 64

-- the value of an expression, from those of its parts: operands go from left to right, and a pointer before the number that it is moved by
abbrev pub value_at : RExpr-F Value → Value
value_at (RExpr-F.Num n) vs = Ok (word_of n)
value_at (RExpr-F.Cell c) vs = Ok (slice_index_or vs.cells c 0)
value_at (RExpr-F.Local i) vs = Ok (slice_index_or vs.locals i 0)
value_at (RExpr-F.Object o) vs = Ok (object_word o)
value_at RExpr-F.Null vs = Ok 0
value_at (RExpr-F.Unary op x) vs = x vs >>= (λ a. Ok (unary op a))
value_at (RExpr-F.Binary op x y) vs = x vs >>= (λ a. y vs >>= (λ b. binary op a b))
value_at (RExpr-F.And x y) vs = x vs >>= (λ a. if word_holds a then y vs >>= (λ b. Ok (truth_word (word_holds b))) else Ok 0)
value_at (RExpr-F.Or x y) vs = x vs >>= (λ a. if word_holds a then Ok 1 else y vs >>= (λ b. Ok (truth_word (word_holds b))))
value_at (RExpr-F.Move x y d) vs = x vs >>= (λ p. y vs >>= (λ a. moved vs.objects p (places d a)))
value_at (RExpr-F.Fetch x) vs = x vs >>= (λ p. fetched p vs)

abbrev pub value : RExpr → Value
value = fold-RExpr Value value_at

-- the values of a call's arguments, from left to right
abbrev pub values : List RExpr → Variables → Result (List ℕ) Trap
values [] vs = Ok []
values (e ∷ es) vs = value e vs >>= (λ a. values es vs >>= (λ as'. Ok (a ∷ as')))

-- an absent condition is 1
abbrev pub test_value : Option RExpr → Value
test_value None vs = Ok 1
test_value (Some e) vs = value e vs

-- ---- places

-- what is stored into: a cell, a local, or what a pointer names
pub data Target : Type 0 where
  ToCell : ℕ → Target
  ToLocal : ℕ → Target
  Through : ℕ → Target

abbrev pub target : RPlace → Variables → Result Target Trap
target (place.Cell c) vs = Ok (ToCell c)
target (place.Local i) vs = Ok (ToLocal i)
target (place.At e) vs = value e vs >>= (λ p. Ok (Through p))

-- ---- single statements

-- what a statement that takes one tick does after it
abbrev pub Action : Type 0
Action = State → Result State Trap

abbrev pub with_event : Event → State → State
with_event e s = record s { events = s.events ++ e ∷ [] }

-- each store into a cell is an event
abbrev pub written : ℕ → ℕ → State → State
written c a s = with_event (Wrote c) (record s { variables = record s.variables { cells = slice_set s.variables.cells c a } })

-- a pointer is tested when it is stored through, after the value was evaluated
abbrev pub write : Target → ℕ → Action
write (ToCell c) a s = Ok (written c a s)
write (ToLocal i) a s = Ok (record s { variables = record s.variables { locals = slice_set s.variables.locals i a } })
write (Through p) a s = cell_of s.variables.objects p >>= (λ c. Ok (written c a s))

-- the place is found before the value is evaluated
abbrev pub set : RPlace → RExpr → Action
set p e s = target p s.variables >>= (λ c. value e s.variables >>= (λ a. write c a s))

-- stores a value where there is a place for it
abbrev pub store : Option RPlace → ℕ → Action
store None a s = Ok s
store (Some p) a s = target p s.variables >>= (λ c. write c a s)

-- a declaration without a value stores 0, each time that it is executed
abbrev pub declare : RPlace → Option RExpr → Action
declare p None = store (Some p) 0
declare p (Some e) = set p e

abbrev pub assign : RAssign → Action
assign a = set a.place a.value

-- what a `for` begins with
abbrev pub begin : RInit → Action
begin (init.Declare a) = declare a.place (Some a.value)
begin (init.Set a) = assign a

-- writes the low 8 bits of a value
abbrev pub put : RExpr → Action
put e s = value e s.variables >>= (λ a. Ok (with_event (Byte (word_low_byte a)) s))

-- the bytes of a `printf`: those in between as they are, and each number by the next of its values
abbrev pub printed : List PrintPiece → List ℕ → List ℕ
printed [] as' = []
printed (print.Byte b ∷ ps) as' = b ∷ printed ps as'
printed (print.Number ∷ ps) [] = printed ps []
printed (print.Number ∷ ps) (a ∷ as') = signed_decimal (signed a) ++ printed ps as'

-- all values are evaluated before a byte is written
abbrev pub write_out : List PrintPiece → List RExpr → Action
write_out ps es s = values es s.variables >>= (λ as'. Ok (record s { events = s.events ++ map Byte (printed ps as') }))

-- the next byte of the input and what is then left, or -1 at its end, where nothing is taken (C99 7.19.7.6)
abbrev pub take_from : List ℕ → State → ℕ × State
take_from [] s = (word_of (negsuc 0), s)
take_from (b ∷ bs) s = (b, with_event Took (record s { input = bs }))

abbrev pub take : State → ℕ × State
take s = take_from s.input s

-- the byte is taken before it is stored
abbrev pub input : Option RPlace → Action
input p s = store p (take s).0 (take s).1

-- a directive is executed
abbrev pub exclude : ℕ → Action
exclude k s = Ok (with_event (Excluded k) s)

-- a checkpoint at a node is passed
abbrev pub checkpoint : ℕ → Action
checkpoint m s = Ok (with_event (Checkpoint m s.ticks) s)

-- ---- ticks and calls

-- one tick more
abbrev pub ticked : State → State
ticked s = record s { ticks = s.ticks + 1 }

-- with other locals
abbrev pub with_locals : List ℕ → State → State
with_locals ls s = record s { variables = record s.variables { locals = ls } }

-- the n locals at a function's entry: its arguments, and 0 in the others
abbrev pub entry_locals : ℕ → List ℕ → List ℕ
entry_locals n as' = as' ++ replicate (n - length as') 0

-- the state in which a program starts
abbrev pub first_state : Resolved → List ℕ → State
first_state p input = record { variables = record { objects = objects p; cells = first_words p; locals = [] }; input = input; events = []; ticks = 0 }
