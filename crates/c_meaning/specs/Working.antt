-- What the evaluator has left to do, and which runs go on from it.
use Rattle.std.specs.Prelude.{ℕ, ◌≡◌, ◌+◌, ◌-◌, ◌<◌, ◌≤◌, List, [], ◌∷◌, map, reverse, Option, Some, None, Result, Ok, Err}
use Rattle.std.specs.Borrow.{Bor}
use Rattle.ckpt_base.specs.declared.trap.Trap.{Trap}
use Rattle.ckpt_base.specs.declared.ending.Ending.{Ending}
use Rattle.ckpt_base.specs.declared.ending.Ending.TheVariants.{Ended}
use Rattle.ckpt_base.specs.Word.{signed}
use Rattle.ckpt_base.specs.Event.{Event}
use Rattle.ckpt_base.specs.Run as run
use Rattle.ckpt_base.specs.Run.{Run}
use Rattle.c_tree.specs.declared.resolved.RAssign.{RAssign}
use Rattle.c_tree.specs.declared.resolved.RFunction.{RFunction}
use Rattle.c_tree.specs.declared.resolved.RArm.{RArm}
use Rattle.c_tree.specs.declared.resolved.RStmt.{RStmt}
use Rattle.c_tree.specs.declared.resolved.RStmt.TheOpen.{RStmt-F}
use Rattle.c_tree.specs.declared.resolved.RStmt.TheFolds.{fold-RStmt, fold-RArm}
use Rattle.c_tree.specs.State.{State, Action, value, values, declare, set, store, put, write_out, take, input, exclude, checkpoint}
use Rattle.c_tree.specs.Meaning.{Then, Ways, Calls, Piece, ArmPiece, tick, given, acts, chooses, stored, handed_on, all_of, last_of, tests, loop_ways, loop, perhaps, piece_at, arm_at, piece, body_ways, main_ways, calls_within}
use Rattle.c_meaning.specs.declared.progress.Progress.{Progress}
use Rattle.c_meaning.specs.declared.evaluator.Evaluator.{Evaluator}
use Rattle.c_meaning.specs.declared.work.Loop.{Loop}
use Rattle.c_meaning.specs.declared.work.Waits.{Waits}
use Rattle.c_meaning.specs.declared.work.Waits.TheVariants as waits
use Rattle.c_meaning.specs.declared.work.Frame.{Frame}
use Rattle.c_meaning.specs.declared.work.Item.{Item}
use Rattle.c_meaning.specs.declared.work.Item.TheVariants as item
use Rattle.c_meaning.specs.declared.work.End.{End}
use Rattle.c_meaning.specs.declared.work.End.TheVariants as end'
use Rattle.c_meaning.specs.declared.work.Single.{Single}
use Rattle.c_meaning.specs.declared.work.Single.TheVariants as single'
use Rattle.c_meaning.specs.declared.work.Task.{Task}
use Rattle.c_meaning.specs.declared.work.Task.TheVariants as task
use Rattle.c_meaning.specs.declared.work.Next.{Next}
use Rattle.c_meaning.specs.declared.work.Next.TheVariants as next'
use Rattle.c_meaning.specs.Memory.{variables, test_of}
use Rattle.c_meaning.specs.Plain.{IsPlain}

-- ---- what is left to do

-- what is left to do, the next thing first
abbrev pub todo : Evaluator → List Item
todo e = reverse e.work

-- the calls that the evaluator may make
abbrev pub calls : Evaluator → Calls
calls e = calls_within e.progress.functions.now e.progress.allowed

abbrev pub update_of : Option (Bor RAssign) → Then → Then
update_of None = perhaps None
update_of (Some a) = perhaps (Some a.now)

abbrev pub last_piece : Calls → Option RStmt → Piece
last_piece calls None = last_of None
last_piece calls (Some s) = last_of (Some (piece calls s))

abbrev pub arm_piece : Calls → RArm → ArmPiece
arm_piece calls = fold-RArm Piece ArmPiece (piece_at calls) (arm_at calls)

-- a loop whose body's first node has the number m
abbrev pub looping : Calls → Loop → ℕ → Ways → Then
looping calls l m = loop (test_of l.test) ((piece calls l.body.now).does m) (update_of l.update)

-- the ways on from the body of a loop
abbrev pub turn_ways : Calls → Loop → ℕ → Ways → Ways
turn_ways calls l m w = loop_ways (update_of l.update (looping calls l m w)) w

-- what the answer of a call does, where the function that made it had these locals
abbrev pub resumed : Waits → Ways → List ℕ → ℕ → Then
resumed (waits.Store p) w = stored (store p.now) w.next
resumed waits.Return w = handed_on w.back

-- the ways on with one more item before them, whose first node has the number m
abbrev pub before : Calls → Item → ℕ → Ways → Ways
before calls (item.One s) m w = record w { next = (piece calls s.now).does m w }
before calls (item.Rest ss) m w = record w { next = all_of (map (piece calls) ss.now) m w }
before calls (item.Tests arms last) m w = record w { next = tests (map (arm_piece calls) arms.now) (last_piece calls last.now) m w }
before calls (item.Turn l) m w = record w { next = looping calls l m w }
before calls (item.Again l) m w = turn_ways calls l m w
before calls (item.Back f) m w = body_ways (resumed f.waits w f.locals)

-- how many calls may be made behind an item, where so many may be made before it
abbrev pub below : Item → ℕ → ℕ
below (item.One s) a = a
below (item.Rest ss) a = a
below (item.Tests arms last) a = a
below (item.Turn l) a = a
below (item.Again l) a = a
below (item.Back f) a = f.allowed

abbrev pub first : List ℕ → ℕ
first [] = 0
first (m ∷ ms) = m

abbrev pub others : List ℕ → List ℕ
others [] = []
others (m ∷ ms) = ms

-- the ways on from what is left to do, where so many calls may be made, and the first nodes of the items have these numbers
abbrev pub ways : List RFunction → ℕ → List Item → List ℕ → Ways
ways fs a [] ms = main_ways
ways fs a (i ∷ is) ms = before (calls_within fs a) i (first ms) (ways fs (below i a) is (others ms))

-- the ways on from an evaluator
abbrev pub ways_on : Evaluator → List ℕ → Ways
ways_on e ms = ways e.progress.functions.now e.progress.allowed (todo e) ms

-- the ways on from behind an item that was taken away
abbrev pub behind : Item → Evaluator → List ℕ → Ways
behind i e ms = ways e.progress.functions.now (below i e.progress.allowed) (todo e) ms

-- what a statement does that is done at once, at the node m
abbrev pub action : Single → ℕ → Action
action (single'.Declare p e) m = declare p.now e.now
action (single'.Set p e) m = set p.now e.now
action (single'.Input p) m = input p.now
action (single'.Put e) m = put e.now
action (single'.Print ps es) m = write_out ps.now es.now
action single'.Checkpoint m = checkpoint m
action (single'.Exclude k) m = exclude k

-- a call with some values
abbrev pub makes : Calls → Waits → ℕ → List ℕ → Ways → Then
makes calls k f as' w s = calls f as' (resumed k w s.variables.locals) s

-- what a task does after its tick
abbrev pub does_task : Calls → Task → ℕ → Ways → Then
does_task calls (task.Single a) m w = acts (action a m) w.next
does_task calls (task.Call k f es) m w = λ s n. given (values es.now s.variables) s (λ as'. makes calls k f as' w s n)
does_task calls (task.Return x) m w = λ s n. given (value x.now s.variables) s (λ a. w.back a s n)
does_task calls task.ReturnInput m w = λ s. w.back (take s).0 (take s).1
does_task calls (task.Choose a more last) m w =
    let p = arm_piece calls a.now in
    chooses p.test (p.body.does (m + 1) w) (tests (map (arm_piece calls) more.now) (last_piece calls last.now) (m + 1 + p.body.size) w)
does_task calls (task.Turn l) m w = chooses (test_of l.test) ((piece calls l.body.now).does m (turn_ways calls l m w)) w.next

-- ---- runs that go on from the evaluator

-- the state of a run that has come so far with these events
abbrev pub state : Progress → List Event → State
state p es = record { variables = variables p.memory; input = p.input.now; events = es; ticks = p.ticks }

-- the run does this before what the evaluator has left to do, with n ticks left, behind some events that wrote its output
pub record From (go : Ways → Then) (e : Evaluator) (n : ℕ) (r : Run) : Type 0 where
  pub events : List Event
  pub numbers : List ℕ
  pub shown : e.progress.output ≡ run.output events
  pub goes : r ≡ go (ways_on e numbers) (state e.progress events) n

-- the run goes on with what the evaluator has left to do
abbrev pub Stands : Evaluator → ℕ → Run → Type 0
Stands e n r = From (λ w. w.next) e n r

-- the run goes on with an item that was taken away
pub record Taken (i : Item) (e : Evaluator) (n : ℕ) (r : Run) : Type 0 where
  pub events : List Event
  pub number : ℕ
  pub numbers : List ℕ
  pub shown : e.progress.output ≡ run.output events
  pub goes : r ≡ (before (calls e) i number (behind i e numbers)).next (state e.progress events) n

-- the run goes on with the answer of a call, whose end was taken away
pub record Answered (f : Frame) (a : ℕ) (e : Evaluator) (n : ℕ) (r : Run) : Type 0 where
  pub events : List Event
  pub numbers : List ℕ
  pub shown : e.progress.output ≡ run.output events
  pub goes : r ≡ resumed f.waits (behind (item.Back f) e numbers) f.locals a (state e.progress events) n

-- the run comes to a task first
abbrev pub ComesTo : Task → Evaluator → ℕ → Run → Type 0
ComesTo t e n r = (m : ℕ) × From (λ w. tick (does_task (calls e) t m w)) e n r

-- the run is over
abbrev pub IsOver : Ending → Evaluator → Run → Type 0
IsOver ending e r = IsPlain e.progress.output ending e.progress.ticks r

-- the run goes on with what is left to do, or comes to a task first
abbrev pub Reached : Option Task → Evaluator → ℕ → Run → Type 0
Reached None e n r = Stands e n r
Reached (Some t) e n r = ComesTo t e n r

-- the run comes to what comes next
abbrev pub Comes : Next → Evaluator → ℕ → Run → Type 0
Comes next'.On e n r = Stands e n r
Comes (next'.Task t) e n r = ComesTo t e n r
Comes (next'.Over ending) e n r = IsOver ending e r

-- the run comes to a task, or is over
abbrev pub Settled : Result Task Ending → Evaluator → ℕ → Run → Type 0
Settled (Ok t) e n r = ComesTo t e n r
Settled (Err ending) e n r = IsOver ending e r

-- the run goes on with what is left to do, or is over
abbrev pub Acted : Option Ending → Evaluator → ℕ → Run → Type 0
Acted None e n r = Stands e n r
Acted (Some ending) e n r = IsOver ending e r

-- a tick was taken below the bound, where the run is not over
abbrev pub Counted : Option Ending → Evaluator → Evaluator → ℕ → Type 0
Counted None e e' until = (e'.progress.ticks ≡ e.progress.ticks + 1) × (e'.progress.ticks ≤ until)
Counted (Some ending) e e' until = Unit {0}

-- ---- single statements

-- the functions, the calls that may be made and the ticks are the same
pub record Keeps (p p' : Progress) : Type 0 where
  pub functions : p'.functions ≡ p.functions
  pub allowed : p'.allowed ≡ p.allowed
  pub ticks : p'.ticks ≡ p.ticks

-- the action was done, or came to a trap
abbrev pub Did : Action → Progress → Progress → Result (Unit {0}) Trap → Type 0
Did act p p' (Ok u) = (es : List Event) → p.output ≡ run.output es → (es' : List Event) × (p'.output ≡ run.output es') × (act (state p es) ≡ Ok (state p' es'))
Did act p p' (Err t) = (p'.output ≡ p.output) × ((es : List Event) → act (state p es) ≡ Err t)

-- an input byte was taken, or -1 at the end of the input
pub record Took (a : ℕ) (p p' : Progress) : Type 0 where
  pub output : p'.output ≡ p.output
  pub took : (es : List Event) → (es' : List Event) × (run.output es' ≡ run.output es) × (take (state p es) ≡ (a, state p' es'))

-- ---- calls

-- how far the run has come where a function was called with these locals
abbrev pub called_progress : List ℕ → Progress → Progress
called_progress ls p = record p { memory = record p.memory { locals = ls }; allowed = p.allowed - 1 }

-- how far the run has come where the function goes on that made a call
abbrev pub restored : Frame → Progress → Progress
restored f p = record p { memory = record p.memory { locals = f.locals }; allowed = f.allowed }

-- a call was ended with its answer: the function that made it goes on, or is ended too; outside calls the program ends
abbrev pub Ends : Option Waits → ℕ → Evaluator → ℕ → Run → Type 0
Ends None a e n r = IsOver (Ended (signed a)) e r
Ends (Some waits.Return) a e n r = From (λ w. w.back a) e n r
Ends (Some (waits.Store p)) a e n r = From (λ w. acts (store p.now a) w.next) e n r

-- ---- the ends of turns and calls

abbrev pub end_item : End → Item
end_item (end'.Loop l) = item.Again l
end_item (end'.Call f) = item.Back f

-- an item that leaves the ways out of its loop as they are
abbrev pub Passes : Item → Type 0
Passes (item.Again l) = ⊥
Passes (item.Back f) = ⊥
Passes (item.One s) = Unit {0}
Passes (item.Rest ss) = Unit {0}
Passes (item.Tests arms last) = Unit {0}
Passes (item.Turn l) = Unit {0}

-- an item that leaves the end of its call as it is
abbrev pub IsNoCall : Item → Type 0
IsNoCall (item.Again l) = Unit {0}
IsNoCall (item.Back f) = ⊥
IsNoCall (item.One s) = Unit {0}
IsNoCall (item.Rest ss) = Unit {0}
IsNoCall (item.Tests arms last) = Unit {0}
IsNoCall (item.Turn l) = Unit {0}

-- the ways out of a loop's turn are those of the item that ended it, and those of main's end where there was none
abbrev pub Skipped : Evaluator → Evaluator → Option End → Type 0
Skipped e e' None = (todo e' ≡ []) × ((ms : List ℕ) → ((ways_on e ms).out_of_loop ≡ main_ways.next) × ((ways_on e ms).again ≡ main_ways.next))
Skipped e e' (Some end) =
    let i = end_item end in
    (ms : List ℕ) → (m : ℕ) × (ms' : List ℕ) × ((ways_on e ms).out_of_loop ≡ (before (calls e') i m (behind i e' ms')).out_of_loop) × ((ways_on e ms).again ≡ (before (calls e') i m (behind i e' ms')).again)

-- ---- how much is left to do

abbrev pub total : List ℕ → ℕ
total [] = 0
total (n ∷ ns) = n + total ns

abbrev pub last_size : Option ℕ → ℕ
last_size None = 0
last_size (Some n) = n + 1

-- how many items may be taken until the statement is done
abbrev pub size_at : RStmt-F ℕ ℕ → ℕ
size_at (RStmt-F.Block ss) = total ss + 2
size_at (RStmt-F.If arms last) = last_size last + 1
size_at (RStmt-F.Do s e) = s + 4
size_at _ = 1

abbrev pub size : RStmt → ℕ
size = fold-RStmt ℕ ℕ size_at (λ a. 0)

abbrev pub last_weight : Option RStmt → ℕ
last_weight None = 0
last_weight (Some s) = size s + 1

abbrev pub weight : Item → ℕ
weight (item.One s) = size s.now + 1
weight (item.Rest ss) = total (map size ss.now) + 1
weight (item.Tests arms last) = last_weight last.now + 1
weight (item.Turn l) = 1
weight (item.Again l) = 2
weight (item.Back f) = 1

abbrev pub weights : List Item → ℕ
weights [] = 0
weights (i ∷ is) = weight i + weights is

-- less is left to do, where no task was found
abbrev pub Lighter : Option Task → ℕ → Evaluator → Type 0
Lighter None n e = weights (todo e) < n
Lighter (Some t) n e = Unit {0}

-- less is left to do, where that comes next
abbrev pub Nearer : Next → ℕ → Evaluator → Type 0
Nearer next'.On n e = weights (todo e) < n
Nearer (next'.Task t) n e = Unit {0}
Nearer (next'.Over ending) n e = Unit {0}
