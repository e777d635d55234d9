-- Which runs agree up to some ticks, and the laws of statements and loops.
use Rattle.std.specs.Prelude.{◌≡◌, ℕ, ◌≤◌, Option}
use Rattle.c_tree.specs.declared.resolved.RAssign.{RAssign}
use Rattle.c_tree.specs.State.{State, Value}
use Rattle.c_tree.specs.Meaning.{Then, Ways, tick, chooses, loop, loop_ways, perhaps}

-- the same happens from each state with at most n ticks left
abbrev pub Agree : ℕ → Then → Then → Type 0
Agree n f g = (s : State) (m : ℕ) → m ≤ n → f s m ≡ g s m

pub record AgreeWays (n : ℕ) (w w' : Ways) : Type 0 where
  pub next : Agree n w.next w'.next
  pub out_of_loop : Agree n w.out_of_loop w'.out_of_loop
  pub again : Agree n w.again w'.again
  pub back : (a : ℕ) → Agree n (w.back a) (w'.back a)

-- what happens with some ticks depends on what follows only at as many ticks or fewer
abbrev pub Steady : (Ways → Then) → Type 0
Steady f = (n : ℕ) (w w' : Ways) → AgreeWays n w w' → Agree n (f w) (f w')

-- a loop is a turn before the loop (C99 6.8.5)
abbrev pub Unrolls : Value → (Ways → Then) → Option RAssign → Type 0
Unrolls e body u = (w : Ways) (s : State) (n : ℕ) → loop e body (perhaps u) w s n ≡ tick (chooses e (body (loop_ways (perhaps u (loop e body (perhaps u) w)) w)) w.next) s n
