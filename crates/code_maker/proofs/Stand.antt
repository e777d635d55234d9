-- Where the machine stands within a node, and how it goes on from there.
use Rattle.std.proofs.Common.{◌≡◌, ℕ, ◌+◌, List, ◌∷◌, ◌++◌, length, drop, Some, Result, Ok, Err, cond, refl, ap, ◌∙◌, subst, append-nil}
use Rattle.std.specs.Prelude.{slice_get}
use Rattle.ckpt_base.specs.declared.trap.Trap.{Trap}
use Rattle.ckpt_base.specs.Trap.{trap_number}
use Rattle.ckpt_base.specs.Word.{word_holds}
use Rattle.c_tree.specs.State.{State, ◌>>=◌}
use Rattle.machine_code.specs.declared.instr.Instr.{Instr}
use Rattle.machine_code.specs.declared.instr.Instr.TheVariants as instr
use Rattle.machine_code.specs.declared.event.Caller.{Caller}
use Rattle.machine_code.specs.declared.event.Event.TheVariants.{Trapped}
use Rattle.machine_code.specs.CodeView.{CodeView}
use Rattle.machine_code.specs.State.{State as Machine, given}
use Rattle.machine_code.specs.Row.{Done, row, ran, answered}
use Rattle.machine_code.specs.Run.{World, world, unprotected, row_at, next_row, after_row, Reaches}
use Rattle.machine_code.proofs.RunLaws.{reaches_on, reaches_row}

-- the machine before place q with some operands, in a state of the graph; below are the locals of the calls that wait
abbrev pub machine : List ℕ → List Caller → State → ℕ → List ℕ → Machine
machine low ks t q ops = record { place = q; operands = ops; below = 0; locals = low ++ t.variables.locals; locals_below = length low; callers = ks; ticks = t.ticks }

abbrev pub stand : List ℕ → List Caller → State → ℕ → List ℕ → World
stand low ks t q ops = world (machine low ks t q ops) t.variables.cells t.input t.events

module _ (c : CodeView) where
  pub reaches_self : (w : World) → Reaches c w w
  reaches_self w = record { by = (0, refl) }

  -- one instruction
  pub reaches_done : (w : World) (i : Instr) (d : Done) → slice_get c.instrs w.state.place ≡ Some i → row c unprotected w.state w.memory i ≡ d → Reaches c w (after_row w d)
  reaches_done w i d at is = subst (λ x. Reaches c w (after_row w x)) is (reaches_row c unprotected w w i at (reaches_self w))

  -- one instruction that shows nothing
  pub reaches_ran : (w : World) (i : Instr) (s : Machine) (m : List ℕ) → slice_get c.instrs w.state.place ≡ Some i → row c unprotected w.state w.memory i ≡ ran s m → Reaches c w (world s m w.input w.events)
  reaches_ran w i s m at is = subst (λ es. Reaches c w (world s m w.input es)) (append-nil w.events) (reaches_done w i (ran s m) at is)

module _ (c : CodeView) (low : List ℕ) (ks : List Caller) (t : State) where
  -- the run comes to an instruction that traps, in the same state
  pub record Fails (w : World) (e : Trap) : Type 0 where
    pub place : ℕ
    pub operands : List ℕ
    pub comes : Reaches c w (stand low ks t place operands)
    pub event : (next_row c unprotected (machine low ks t place operands) t.variables.cells).event ≡ Trapped (trap_number e)

  -- the run comes to place q with the value on top, or traps
  abbrev pub Gives : World → ℕ → List ℕ → Result ℕ Trap → Type 0
  Gives w q ops (Ok v) = Reaches c w (stand low ks t q (v ∷ ops))
  Gives w q ops (Err e) = Fails w e

  pub fails_on : (w v : World) (e : Trap) → Reaches c w v → Fails v e → Fails w e
  fails_on w v e r f = record { place = f.place; operands = f.operands; comes = reaches_on c w v _ r f.comes; event = f.event }

  pub gives_on : (w v : World) (q : ℕ) (ops : List ℕ) (r : Result ℕ Trap) → Reaches c w v → Gives v q ops r → Gives w q ops r
  gives_on w v q ops (Ok a) h g = reaches_on c w v _ h g
  gives_on w v q ops (Err e) h g = fails_on w v e h g

  pub gives_then : (w : World) (q q' : ℕ) (ops ops' : List ℕ) (r : Result ℕ Trap) (f : ℕ → Result ℕ Trap) → Gives w q ops r → ((a : ℕ) → Gives (stand low ks t q (a ∷ ops)) q' ops' (f a)) → Gives w q' ops' (r >>= f)
  gives_then w q q' ops ops' (Ok a) f g h = gives_on w _ q' ops' (f a) g (h a)
  gives_then w q q' ops ops' (Err e) f g h = g

  pub gives_at : (w : World) (q q' : ℕ) (ops : List ℕ) (r : Result ℕ Trap) → q ≡ q' → Gives w q ops r → Gives w q' ops r
  gives_at w q q' ops r e g = subst (λ z. Gives w z ops r) e g

  -- an instruction that puts an answer in the place of its operands
  pub gives_answer : (q : ℕ) (ops : List ℕ) (n : ℕ) (i : Instr) (r : Result ℕ Trap) → slice_get c.instrs q ≡ Some i → row c unprotected (machine low ks t q ops) t.variables.cells i ≡ answered (machine low ks t q ops) t.variables.cells n r → Gives (stand low ks t q ops) (q + 1) (drop n ops) r
  gives_answer q ops n i (Ok v) at is = reaches_ran c (stand low ks t q ops) i (given (machine low ks t q ops) n v) t.variables.cells at is
  gives_answer q ops n i (Err e) at is = record {
    place = q;
    operands = ops;
    comes = reaches_self c (stand low ks t q ops);
    event = ap (λ o. (row_at c unprotected (machine low ks t q ops) t.variables.cells o).event) at ∙ ap (λ (d : Done). d.event) is;
  }

  pub reaches_jump : (q z : ℕ) (ops : List ℕ) → slice_get c.instrs q ≡ Some (instr.Jump z) → Reaches c (stand low ks t q ops) (stand low ks t z ops)
  reaches_jump q z ops at = reaches_ran c (stand low ks t q ops) (instr.Jump z) (machine low ks t z ops) t.variables.cells at refl

  -- a jump where the value on top is 0
  pub reaches_test : (q z a : ℕ) (ops : List ℕ) → slice_get c.instrs q ≡ Some (instr.JumpZ z) → Reaches c (stand low ks t q (a ∷ ops)) (stand low ks t (cond (word_holds a) (q + 1) z) ops)
  reaches_test q z a ops at = reaches_ran c (stand low ks t q (a ∷ ops)) (instr.JumpZ z) (machine low ks t (cond (word_holds a) (q + 1) z) ops) t.variables.cells at refl

  pub gives_jump : (w : World) (q z : ℕ) (ops : List ℕ) (r : Result ℕ Trap) → slice_get c.instrs q ≡ Some (instr.Jump z) → Gives w q ops r → Gives w z ops r
  gives_jump w q z ops (Ok v) at g = reaches_on c w _ _ g (reaches_jump q z (v ∷ ops) at)
  gives_jump w q z ops (Err e) at g = g
