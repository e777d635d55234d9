-- What a program does with at most so many ticks, by cases on its statements.
use Rattle.std.specs.Prelude.{ℕ, zero, suc, ◌+◌, if◌then◌else◌, List, [], ◌∷◌, length, Option, Some, None, Result, Ok, Err, slice_get}
use Rattle.ckpt_base.specs.declared.trap.Trap.{Trap}
use Rattle.ckpt_base.specs.declared.trap.Trap.TheVariants.{TooManyCalls}
use Rattle.ckpt_base.specs.Trap.{trap_number}
use Rattle.ckpt_base.specs.declared.ending.Ending.{Ending}
use Rattle.ckpt_base.specs.declared.ending.Ending.TheVariants.{Ended, Trapped, Going}
use Rattle.ckpt_base.specs.Word.{signed, word_holds}
use Rattle.ckpt_base.specs.Run.{Run}
use Rattle.c_tree.specs.declared.resolved.RExpr.{RExpr}
use Rattle.c_tree.specs.declared.resolved.RAssign.{RAssign}
use Rattle.c_tree.specs.declared.resolved.RInit.{RInit}
use Rattle.c_tree.specs.declared.resolved.RStmt.{RStmt}
use Rattle.c_tree.specs.declared.resolved.RStmt.TheOpen.{RStmt-F, RArm-F}
use Rattle.c_tree.specs.declared.resolved.RStmt.TheFolds.{fold-RStmt}
use Rattle.c_tree.specs.declared.resolved.RFunction.{RFunction}
use Rattle.c_tree.specs.declared.resolved.Resolved.{Resolved}
use Rattle.c_tree.specs.Nodes.{init_count, assign_count}
use Rattle.c_tree.specs.State.{State, Value, Action, value, values, test_value, declare, set, store, assign, begin, put, write_out, take, input, exclude, checkpoint, ticked, with_locals, entry_locals, first_state}

-- the run that ends in a state
abbrev pub over : Ending → State → Run
over e s = record { events = s.events; memory = s.variables.cells; ending = e; ticks = s.ticks }

-- what happens from some place on: from a state, with the ticks that are left
abbrev pub Then : Type 0
Then = State → ℕ → Run

-- nothing more happens
abbrev pub stop : Ending → Then
stop e s n = over e s

-- takes a tick, and the run is Going where none is left
abbrev pub tick : Then → Then
tick go s zero = over Going s
tick go s (suc n) = go (ticked s) n

-- goes on with what there is, or traps
abbrev pub given : {A : Type 0} → Result A Trap → State → (A → Run) → Run
given (Ok x) s go = go x
given (Err t) s go = over (Trapped (trap_number t)) s

-- an action, and on
abbrev pub acts : Action → Then → Then
acts act next s n = given (act s) s (λ t. next t n)

-- one of two ways on, by a value
abbrev pub chooses : Value → Then → Then → Then
chooses v holding failing s n = given (v s.variables) s (λ a. if word_holds a then holding s n else failing s n)

-- a tick, an action, and on
abbrev pub single : Action → Then → Then
single act next = tick (acts act next)

-- what happens after a statement: behind it, out of its loop, at the loop's next turn, and where it ends its function with a value
pub record Ways : Type 0 where
  pub next : Then
  pub out_of_loop : Then
  pub again : Then
  pub back : ℕ → Then

-- a call of a function with some values, given what happens with its answer
abbrev pub Calls : Type 0
Calls = ℕ → List ℕ → (ℕ → Then) → Then

-- how many nodes a statement has, and what it does, given the number of its first node and the ways on from it
pub record Piece : Type 0 where
  pub size : ℕ
  pub does : ℕ → Ways → Then

-- an arm of an `if`
pub record ArmPiece : Type 0 where
  pub test : Value
  pub body : Piece

-- no node
abbrev pub nothing : Piece
nothing = record { size = 0; does = λ m w. w.next }

-- one node
abbrev pub one : (ℕ → Ways → Then) → Piece
one does = record { size = 1; does = does }

-- one node that does an action
abbrev pub one_action : Action → Piece
one_action act = one (λ m w. single act w.next)

abbrev pub size_all : List Piece → ℕ
size_all [] = 0
size_all (p ∷ ps) = p.size + size_all ps

-- one statement after the other
abbrev pub all_of : List Piece → ℕ → Ways → Then
all_of [] m w = w.next
all_of (p ∷ ps) m w = p.does m (record w { next = all_of ps (m + p.size) w })

abbrev pub last_of : Option Piece → Piece
last_of None = nothing
last_of (Some p) = p

abbrev pub size_arms : List ArmPiece → ℕ
size_arms [] = 0
size_arms (a ∷ as') = 1 + a.body.size + size_arms as'

-- the first arm whose test holds, or the last statement (C99 6.8.4.1)
abbrev pub tests : List ArmPiece → Piece → ℕ → Ways → Then
tests [] last m w = last.does m w
tests (a ∷ as') last m w = tick (chooses a.test (a.body.does (m + 1) w) (tests as' last (m + 1 + a.body.size) w))

-- the ways on from the body of a loop, which goes on with its next turn
abbrev pub loop_ways : Then → Ways → Ways
loop_ways again w = record { next = again; out_of_loop = w.next; again = again; back = w.back }

-- at most so many turns of a loop: its test, its body, and what comes before the next turn
abbrev pub turns : ℕ → Value → (Ways → Then) → (Then → Then) → Ways → Then
turns zero e body update w = stop Going
turns (suc b) e body update w = tick (chooses e (body (loop_ways (update (turns b e body update w)) w)) w.next)

-- a loop (C99 6.8.5): each turn takes a tick, so that there are no more of them than ticks
abbrev pub loop : Value → (Ways → Then) → (Then → Then) → Ways → Then
loop e body update w s n = turns (suc n) e body update w s n

-- an assignment that may be absent
abbrev pub perhaps : Option RAssign → Then → Then
perhaps None next = next
perhaps (Some a) next = single (assign a) next

abbrev pub begins : Option RInit → Then → Then
begins None next = next
begins (Some i) next = single (begin i) next

-- what a call's answer does in the function that made the call, with its own locals: it is stored
abbrev pub stored : (ℕ → Action) → Then → List ℕ → ℕ → Then
stored act next ls a s = acts (act a) next (with_locals ls s)

-- .. or it ends that function, too
abbrev pub handed_on : (ℕ → Then) → List ℕ → ℕ → Then
handed_on back ls a s = back a (with_locals ls s)

module _ (calls : Calls) where
  -- a call with its arguments, given what happens with its answer in the function that makes the call
  abbrev pub makes_call : ℕ → List RExpr → (List ℕ → ℕ → Then) → Then
  makes_call f es on s n = given (values es s.variables) s (λ as'. calls f as' (on s.variables.locals) s n)

  -- what a statement does, from what its parts do
  abbrev pub piece_at : RStmt-F Piece ArmPiece → Piece
  piece_at RStmt-F.Empty = nothing
  piece_at RStmt-F.Break = record { size = 0; does = λ m w. w.out_of_loop }
  piece_at RStmt-F.Continue = record { size = 0; does = λ m w. w.again }
  piece_at (RStmt-F.Declare p e) = one_action (declare p e)
  piece_at (RStmt-F.Set p e) = one_action (set p e)
  piece_at (RStmt-F.Call p f es) = one (λ m w. tick (makes_call f es (stored (store p) w.next)))
  piece_at (RStmt-F.Input p) = one_action (input p)
  piece_at (RStmt-F.Return e) = one (λ m w. tick (λ s n. given (value e s.variables) s (λ a. w.back a s n)))
  piece_at (RStmt-F.ReturnCall f es) = one (λ m w. tick (makes_call f es (handed_on w.back)))
  piece_at RStmt-F.ReturnInput = one (λ m w. tick (λ s. w.back (take s).0 (take s).1))
  piece_at (RStmt-F.Put e) = one_action (put e)
  piece_at (RStmt-F.Print ps es) = one_action (write_out ps es)
  piece_at RStmt-F.Checkpoint = one (λ m w. single (checkpoint m) w.next)
  piece_at (RStmt-F.Exclude k) = one_action (exclude k)
  piece_at (RStmt-F.Block ps) = record { size = size_all ps; does = all_of ps }
  piece_at (RStmt-F.If arms last) = record { size = size_arms arms + (last_of last).size; does = tests arms (last_of last) }
  piece_at (RStmt-F.While e p) = record {
    size = 1 + p.size;
    does = λ m. loop (test_value (Some e)) (p.does (m + 1)) (perhaps None);
  }
  piece_at (RStmt-F.Do p e) = record {
    size = 1 + p.size;
    does = λ m w. p.does m (loop_ways (loop (test_value (Some e)) (p.does m) (perhaps None) w) w);
  }
  piece_at (RStmt-F.For init e update p) = record {
    size = init_count init + 1 + assign_count update + p.size;
    does = λ m w. begins init (loop (test_value e) (p.does (m + init_count init + 1 + assign_count update)) (perhaps update) w);
  }

  abbrev pub arm_at : RArm-F Piece ArmPiece → ArmPiece
  arm_at a = record { test = value a.test; body = a.body }

  abbrev pub piece : RStmt → Piece
  piece = fold-RStmt Piece ArmPiece piece_at arm_at

-- ---- functions

-- what a checked program never comes to: not Going, so that Going always means that a tick was wanted
abbrev pub nowhere : Then
nowhere = stop (Trapped (trap_number TooManyCalls))

-- the ways on from a function's body: its end gives 0
abbrev pub body_ways : (ℕ → Then) → Ways
body_ways back = record { next = back 0; out_of_loop = back 0; again = back 0; back = back }

abbrev pub called : Calls → Option RFunction → List ℕ → (ℕ → Then) → Then
called calls None as' back = nowhere
called calls (Some f) as' back = λ s. (piece calls f.body).does 0 (body_ways back) (with_locals (entry_locals (length f.locals) as') s)

-- calls where so many more may be active
abbrev pub calls_within : List RFunction → ℕ → Calls
calls_within fs zero f as' back = stop (Trapped (trap_number TooManyCalls))
calls_within fs (suc a) f as' back = called (calls_within fs a) (slice_get fs f) as' back

-- `main` ends with the value that it returns, and with 0 at its end (C99 5.1.2.2.3)
abbrev pub main_ways : Ways
main_ways = body_ways (λ a. stop (Ended (signed a)))

-- the run of a program on an input, with at most n ticks
abbrev pub meaning : Resolved → List ℕ → ℕ → Run
meaning p input n = (piece (calls_within p.functions 1000) p.main.body).does 0 main_ways (first_state p input) n
