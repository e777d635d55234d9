-- The values of some expressions, one after the other.
use Rattle.std.proofs.Common.{◌≡◌, ℕ, List, ◌++◌, drop, Result, Ok, Err}
use Rattle.ckpt_base.specs.declared.trap.Trap.{Trap}
use Rattle.c_tree.specs.declared.resolved.RExpr.{RExpr}
use Rattle.c_tree.specs.State.{Variables, values}

-- some values before those that are still to be found
abbrev pub before : List ℕ → Result (List ℕ) Trap → Result (List ℕ) Trap
before xs (Ok as') = Ok (xs ++ as')
before xs (Err t) = Err t

-- the values found so far stand before those of the other expressions
abbrev pub FoundSoFar : List RExpr → Variables → ℕ → List ℕ → Type 0
FoundSoFar es vs i xs = values es vs ≡ before xs (values (drop i es) vs)
