-- Directives outside `main`, and calls of `main`, in the order of the text.
use Rattle.std.specs.Prelude.{ℕ, Bool, true, false, List, [], ◌∷◌, ◌++◌, map, Option, Some, None}
use Rattle.c_tree.specs.declared.tree.Callee.{Callee}
use Rattle.c_tree.specs.declared.tree.Callee.TheVariants as callee
use Rattle.c_tree.specs.declared.tree.Given.{Given}
use Rattle.c_tree.specs.declared.tree.Given.TheVariants as given
use Rattle.c_tree.specs.declared.tree.LocalDecl.{LocalDecl}
use Rattle.c_tree.specs.declared.tree.Stmt.{Stmt}
use Rattle.c_tree.specs.declared.tree.Arm.{Arm}
use Rattle.c_tree.specs.declared.tree.Stmt.TheOpen.{Stmt-F, Arm-F}
use Rattle.c_tree.specs.declared.tree.Stmt.TheFolds.{fold-Stmt, fold-Arm}
use Rattle.c_tree.specs.declared.tree.Item.{Item}
use Rattle.c_tree.specs.declared.tree.Item.TheVariants as item
use Rattle.c_types.specs.declared.fault.CheckFault.TheVariants.{DirectiveOutsideMain, CallsMain}
use Rattle.c_types.specs.Faults.{Faults, unless}

-- nothing calls `main`
abbrev pub calls : ℕ → Callee → Faults
calls l callee.Main = CallsMain l ∷ []
calls l (callee.Name n) = []

abbrev pub given_faults : ℕ → Given → Faults
given_faults l (given.Value e) = []
given_faults l (given.Call f es) = calls l f
given_faults l given.Input = []

abbrev pub decl_faults : ℕ → Option Given → Faults
decl_faults l None = []
decl_faults l (Some g) = given_faults l g

abbrev pub decls_faults : ℕ → List LocalDecl → Faults
decls_faults l [] = []
decls_faults l (d ∷ ds) = decl_faults l d.given ++ decls_faults l ds

-- one part after the other
abbrev pub all : List Faults → Faults
all [] = []
all (f ∷ fs) = f ++ all fs

abbrev pub perhaps : Option Faults → Faults
perhaps None = []
perhaps (Some f) = f

module _ (in_main : Bool) where
  -- a directive stands in `main`
  abbrev pub directive : ℕ → Faults
  directive l = unless in_main (DirectiveOutsideMain l)

  abbrev pub stmt_at : Stmt-F Faults Faults → Faults
  stmt_at (Stmt-F.Empty l) = []
  stmt_at (Stmt-F.Declare l ds) = decls_faults l ds
  stmt_at (Stmt-F.Set l a) = []
  stmt_at (Stmt-F.Call l n f es) = calls l f
  stmt_at (Stmt-F.Input l n) = []
  stmt_at (Stmt-F.Put l e) = []
  stmt_at (Stmt-F.Print l ps es) = []
  stmt_at (Stmt-F.Return l g) = given_faults l g
  stmt_at (Stmt-F.If l arms last) = all arms ++ perhaps last
  stmt_at (Stmt-F.While l e s) = s
  stmt_at (Stmt-F.Do l s e) = s
  stmt_at (Stmt-F.For l i e u s) = s
  stmt_at (Stmt-F.Block l ss) = all ss
  stmt_at (Stmt-F.Break l) = []
  stmt_at (Stmt-F.Continue l) = []
  stmt_at (Stmt-F.Checkpoint l) = directive l
  stmt_at (Stmt-F.Exclude l) = directive l

  abbrev pub arm_at : Arm-F Faults Faults → Faults
  arm_at a = a.body

  abbrev pub stmt : Stmt → Faults
  stmt = fold-Stmt Faults Faults stmt_at arm_at

  abbrev pub arm : Arm → Faults
  arm = fold-Arm Faults Faults stmt_at arm_at

abbrev pub item_faults : Item → Faults
item_faults (item.Objects l ds) = []
item_faults item.Prototype = []
item_faults (item.Function f) = all (map (stmt false) f.body)
item_faults (item.Main k ss) = all (map (stmt true) ss)

-- the faults of a program's directives, in the order of the text
abbrev pub directive_faults : List Item → Faults
directive_faults is = all (map item_faults is)
