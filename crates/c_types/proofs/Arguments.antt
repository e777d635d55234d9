-- Arguments of calls.
use Rattle.std.proofs.Common.{◌≡◌, ℕ, ◌+◌, ◌<◌, Bool, true, false, ◌&&◌, List, [], ◌∷◌, ◌++◌, take, drop, length, get_or, Result, Ok, Err, Some, refl, sym, ap, ◌∙◌, append_assoc}
use Rattle.std.proofs.lemmas.List.{take_more}
use Rattle.c_tree.specs.declared.tree.Expr.{Expr}
use Rattle.c_tree.specs.declared.resolved.RExpr.{RExpr}
use Rattle.c_tree.specs.Kinds.{World, kind, agree, are_given}
use Rattle.c_types.proofs.Tests.{and_true}
use Rattle.c_types.specs.declared.types.Frame.{Frame}
use Rattle.c_types.specs.Scope.{Env}
use Rattle.c_types.specs.File.{File}
use Rattle.c_types.specs.Fitting.{Fits}
use Rattle.c_types.specs.declared.fault.CheckFault.{CheckFault}
use Rattle.c_types.specs.Places.{◌>>=◌, args, fits}
use Rattle.c_types.proofs.Loops.{split, split_at}

-- the arguments as far as they were made
pub record Passing (file : File) (frame : Frame) (env : Env) (l : ℕ) (ps : List Bool) (es : List Expr) (i : ℕ) (done : List RExpr) : Type 0 where
  pub same : args file frame env l (drop i ps) (drop i es) >>= (λ more. Ok (done ++ more)) ≡ args file frame env l ps es
  pub kept : (w : World) → Fits w file frame env.locals → are_given w (take i ps) done ≡ true

-- what is made one by one is the same list
pub bind_cons : {A : Type 0} (r : Result (List A) CheckFault) (done : List A) (v : A) → (r >>= (λ more. Ok (v ∷ more))) >>= (λ more. Ok (done ++ more)) ≡ r >>= (λ more. Ok ((done ++ v ∷ []) ++ more))
bind_cons (Ok more) done v = ap Ok (sym (append_assoc done (v ∷ []) more))
bind_cons (Err f) done v = refl

module _ (file : File) (frame : Frame) (env : Env) (l : ℕ) (ps : List Bool) (es : List Expr) (i : ℕ) where
  -- the first of the arguments that are left
  step : (e : Expr) (v : RExpr) → i < length ps → i < length es → e ≡ get_or es i e → fits file frame env l (get_or ps i false) e ≡ Ok v → args file frame env l (drop i ps) (drop i es) ≡ args file frame env l (drop (i + 1) ps) (drop (i + 1) es) >>= (λ more. Ok (v ∷ more))
  step e v lp le same fits =
      ap (λ qs. args file frame env l qs (drop i es)) (split_at ps i false lp)
      ∙ ap (args file frame env l (get_or ps i false ∷ drop (i + 1) ps)) (split es i e le same)
      ∙ ap (λ r. r >>= (λ a. args file frame env l (drop (i + 1) ps) (drop (i + 1) es) >>= (λ as'. Ok (a ∷ as')))) fits

  pub args_step : (e : Expr) (v : RExpr) (done : List RExpr) → i < length ps → i < length es → e ≡ get_or es i e → fits file frame env l (get_or ps i false) e ≡ Ok v → args file frame env l (drop (i + 1) ps) (drop (i + 1) es) >>= (λ more. Ok ((done ++ v ∷ []) ++ more)) ≡ args file frame env l (drop i ps) (drop i es) >>= (λ more. Ok (done ++ more))
  args_step e v done lp le same fits = sym (ap (λ r. r >>= (λ more. Ok (done ++ more))) (step e v lp le same fits) ∙ bind_cons (args file frame env l (drop (i + 1) ps) (drop (i + 1) es)) done v)

agree_same : (p : Bool) → agree (Some p) (Some p) ≡ true
agree_same true = refl
agree_same false = refl

given_append : (w : World) (ps : List Bool) (es : List RExpr) (p : Bool) (e : RExpr) → are_given w ps es ≡ true → kind w e ≡ Some p → are_given w (ps ++ p ∷ []) (es ++ e ∷ []) ≡ true
given_append w [] [] p e h k = ap (λ q. agree (Some p) q && true) k ∙ ap (λ b. b && true) (agree_same p)
given_append w [] (d ∷ es) p e h k = cc
given_append w (q ∷ ps) [] p e h k = cc
given_append w (q ∷ ps) (d ∷ es) p e h k =
    let t = and_true (agree (Some q) (kind w d)) (are_given w ps es) h in
    ap (λ b. b && are_given w (ps ++ p ∷ []) (es ++ e ∷ [])) t.0 ∙ given_append w ps es p e t.1 k

-- one more argument of its parameter's type
pub given_push : (w : World) (ps : List Bool) (i : ℕ) (done : List RExpr) (e : RExpr) → are_given w (take i ps) done ≡ true → i < length ps → kind w e ≡ Some (get_or ps i false) → are_given w (take (i + 1) ps) (done ++ e ∷ []) ≡ true
given_push w ps i done e h lt k = ap (λ qs. are_given w qs (done ++ e ∷ [])) (take_more ps i false lt) ∙ given_append w (take i ps) done (get_or ps i false) e h k
