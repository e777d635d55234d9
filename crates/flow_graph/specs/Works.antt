-- What the nodes of a function do, in the order of the text.
use Rattle.std.specs.Prelude.{pos, List, [], ◌∷◌, ◌++◌, Option, Some, None}
use Rattle.c_tree.specs.declared.resolved.RExpr.{RExpr}
use Rattle.c_tree.specs.declared.resolved.RExpr.TheVariants as expr
use Rattle.c_tree.specs.declared.resolved.RAssign.{RAssign}
use Rattle.c_tree.specs.declared.resolved.RInit.{RInit}
use Rattle.c_tree.specs.declared.resolved.RInit.TheVariants as init
use Rattle.c_tree.specs.declared.resolved.RStmt.{RStmt}
use Rattle.c_tree.specs.declared.resolved.RStmt.TheOpen.{RStmt-F, RArm-F}
use Rattle.c_tree.specs.declared.resolved.RStmt.TheFolds.{fold-RStmt, fold-RArm}
use Rattle.c_tree.specs.declared.resolved.RArm.{RArm}
use Rattle.flow_graph.specs.declared.node.NodeWork.{NodeWork}
use Rattle.flow_graph.specs.declared.node.NodeWork.TheVariants as work

abbrev pub Works : Type 0
Works = List NodeWork

abbrev pub all_works : List Works → Works
all_works [] = []
all_works (ws ∷ wss) = ws ++ all_works wss

abbrev pub last_works : Option Works → Works
last_works None = []
last_works (Some ws) = ws

-- the update of a `for`, which may be absent
abbrev pub update_works : Option RAssign → Works
update_works None = []
update_works (Some a) = work.Set a.place a.value ∷ []

-- what a `for` begins with, which may be absent
abbrev pub init_works : Option RInit → Works
init_works None = []
init_works (Some (init.Declare a)) = work.Declare a.place (Some a.value) ∷ []
init_works (Some (init.Set a)) = work.Set a.place a.value ∷ []

-- an absent condition is 1
abbrev pub condition : Option RExpr → RExpr
condition None = expr.Num (pos 1)
condition (Some e) = e

-- what the nodes of a statement do, from those of its parts
abbrev pub works_at : RStmt-F Works Works → Works
works_at RStmt-F.Empty = []
works_at RStmt-F.Break = []
works_at RStmt-F.Continue = []
works_at (RStmt-F.Declare p e) = work.Declare p e ∷ []
works_at (RStmt-F.Set p e) = work.Set p e ∷ []
works_at (RStmt-F.Call p f es) = work.Call p f es ∷ []
works_at (RStmt-F.Input p) = work.Input p ∷ []
works_at (RStmt-F.Return e) = work.Return e ∷ []
works_at (RStmt-F.ReturnCall f es) = work.ReturnCall f es ∷ []
works_at RStmt-F.ReturnInput = work.ReturnInput ∷ []
works_at (RStmt-F.Put e) = work.Put e ∷ []
works_at (RStmt-F.Print ps es) = work.Print ps es ∷ []
works_at RStmt-F.Checkpoint = work.Checkpoint ∷ []
works_at (RStmt-F.Exclude k) = work.Exclude k ∷ []
works_at (RStmt-F.Block wss) = all_works wss
works_at (RStmt-F.If arms last) = all_works arms ++ last_works last
works_at (RStmt-F.While e ws) = work.Test e ∷ ws
works_at (RStmt-F.Do ws e) = ws ++ work.Test e ∷ []
works_at (RStmt-F.For i e u ws) = init_works i ++ work.Test (condition e) ∷ (update_works u ++ ws)

-- the test of an arm stands before its body
abbrev pub arm_works_at : RArm-F Works Works → Works
arm_works_at a = work.Test a.test ∷ a.body

abbrev pub works : RStmt → Works
works = fold-RStmt Works Works works_at arm_works_at

abbrev pub arm_works : RArm → Works
arm_works = fold-RArm Works Works works_at arm_works_at

-- the end node stands behind all others
abbrev pub works_of_body : RStmt → Works
works_of_body body = works body ++ work.End ∷ []
