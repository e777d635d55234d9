-- Values need at least the operands that each of them needs with those behind it.
use Rattle.std.proofs.Common.{◌≡◌, ℕ, zero, suc, ◌+◌, ◌<◌, ◌≤◌, drop, List, [], ◌∷◌, length, get_or, ap, ◌∙◌, arith}
use Rattle.std.specs.Prelude.{max}
use Rattle.c_tree.specs.declared.resolved.RExpr.{RExpr}
use Rattle.code_maker.specs.Depths.{expr_depth, values_depth}

least : (es : List RExpr) (j : ℕ) (e : RExpr) → j < length es → e ≡ get_or es j e → max (expr_depth e) (values_depth (drop (j + 1) es) + 1) ≤ values_depth es
least [] j e h k = absurd (omega arith)
least (x ∷ xs) zero e h k = let d = ap expr_depth k in omega (arith, d)
least (x ∷ xs) (suc j) e h k =
    let r = least xs j e (omega arith) k in
    let d = ap (λ n. values_depth (drop n (x ∷ xs))) (let q : suc (j + 1) ≡ suc j + 1 = omega arith in q) in
    omega (arith, r, d)

pub at_least : (es : List RExpr) (i j : ℕ) (e : RExpr) (d : ℕ) → i ≡ j + 1 → j < length es → e ≡ get_or es j e → d ≡ values_depth (drop i es) → max (expr_depth e) (d + 1) ≤ values_depth es
at_least es i j e d h l k s =
    let r = least es j e l k in
    let q = s ∙ ap (λ n. values_depth (drop n es)) h in
    omega (arith, r, q)
