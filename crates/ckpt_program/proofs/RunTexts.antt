-- The names of runs, place by place.
use Rattle.std.proofs.Common.{◌≡◌, ◌<◌, ◌+◌, ◌-◌, Bool, ℕ, suc, List, ◌++◌, Option, ap, ◌∙◌, arith, append_assoc}
use Rattle.c_tree.specs.declared.resolved.RObject.{RObject}
use Rattle.c_tree.specs.declared.resolved.Resolved.{Resolved}
use Rattle.cell_sets.specs.Sets.{Cells}
use Rattle.ckpt_program.specs.Report.{Run, runs_from, runs_text, local_text, locals_text}

-- one of the places of an object that are left
pub next_of_many : (t : ℕ → Bool) (many place : ℕ) (begun : Option ℕ) → place < many → runs_from t (suc (many - (place + 1))) place begun ≡ runs_from t (many - place) place begun
next_of_many t many place begun h = ap (λ (n : ℕ). runs_from t n place begun) {x = suc (many - (place + 1))} {y = many - place} (omega arith)

pub place_passed : (o : RObject) (t : ℕ → Bool) (many place : ℕ) (begun now : Option ℕ) (start old new : List ℕ) → place < many → ((n : ℕ) → new ++ runs_text o (runs_from t n (place + 1) now) ≡ old ++ runs_text o (runs_from t (suc n) place begun)) → old ++ runs_text o (runs_from t (many - place) place begun) ≡ start → new ++ runs_text o (runs_from t (many - (place + 1)) (place + 1) now) ≡ start
place_passed o t many place begun now start old new h step was = step (many - (place + 1)) ∙ ap (λ (rs : List Run). old ++ runs_text o rs) (next_of_many t many place begun h) ∙ was

-- one of the locals that are left
pub next_local : (p : Resolved) (s : Cells) (end cell : ℕ) → cell < end → local_text p s cell ++ locals_text p s (end - (cell + 1)) (cell + 1) ≡ locals_text p s (end - cell) cell
next_local p s end cell h = ap (λ (n : ℕ). locals_text p s n cell) {x = suc (end - (cell + 1))} {y = end - cell} (omega arith)

pub local_passed : (p : Resolved) (s : Cells) (end cell : ℕ) (start old new : List ℕ) → cell < end → new ≡ old ++ local_text p s cell → old ++ locals_text p s (end - cell) cell ≡ start → new ++ locals_text p s (end - (cell + 1)) (cell + 1) ≡ start
local_passed p s end cell start old new h is was =
    let rest = locals_text p s (end - (cell + 1)) (cell + 1) in
    ap (λ (l : List ℕ). l ++ rest) is ∙ append_assoc old (local_text p s cell) rest ∙ ap (λ (l : List ℕ). old ++ l) (next_local p s end cell h) ∙ was
