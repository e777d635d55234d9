-- The numbers of the EXCLUDE_HERE statements, in the order of the text.
use Rattle.std.specs.Prelude.{ℕ, ◌+◌, Bool, true, ◌&&◌, nat_eq, List, [], ◌∷◌, ◌++◌, Some, None}
use Rattle.std.specs.List.{concat}
use Rattle.c_tree.specs.declared.resolved.RArm.{RArm}
use Rattle.c_tree.specs.declared.resolved.RStmt.{RStmt}
use Rattle.c_tree.specs.declared.resolved.RStmt.TheOpen.{RStmt-F, RArm-F}
use Rattle.c_tree.specs.declared.resolved.RStmt.TheFolds.{fold-RStmt, fold-RArm}

abbrev pub excludes_at : RStmt-F (List ℕ) (List ℕ) → List ℕ
excludes_at (RStmt-F.Exclude k) = k ∷ []
excludes_at (RStmt-F.If arms None) = concat arms
excludes_at (RStmt-F.If arms (Some s)) = concat arms ++ s
excludes_at (RStmt-F.While e s) = s
excludes_at (RStmt-F.Do s e) = s
excludes_at (RStmt-F.For init e update s) = s
excludes_at (RStmt-F.Block ss) = concat ss
excludes_at s = []

abbrev pub arm_excludes_at : RArm-F (List ℕ) (List ℕ) → List ℕ
arm_excludes_at a = a.body

-- the numbers of the EXCLUDE_HERE of a statement
abbrev pub excludes : RStmt → List ℕ
excludes = fold-RStmt (List ℕ) (List ℕ) excludes_at arm_excludes_at

abbrev pub arm_excludes : RArm → List ℕ
arm_excludes = fold-RArm (List ℕ) (List ℕ) excludes_at arm_excludes_at

-- these are the numbers from n on, in order
abbrev pub counts_from : ℕ → List ℕ → Bool
counts_from n [] = true
counts_from n (k ∷ ks) = nat_eq k n && counts_from (n + 1) ks
