-- How many nodes a statement has.
use Rattle.std.specs.Prelude.{ℕ, ◌+◌, sum, Option, Some, None}
use Rattle.c_tree.specs.declared.resolved.RAssign.{RAssign}
use Rattle.c_tree.specs.declared.resolved.RInit.{RInit}
use Rattle.c_tree.specs.declared.resolved.RArm.{RArm}
use Rattle.c_tree.specs.declared.resolved.RStmt.{RStmt}
use Rattle.c_tree.specs.declared.resolved.RStmt.TheOpen.{RStmt-F, RArm-F}
use Rattle.c_tree.specs.declared.resolved.RStmt.TheFolds.{fold-RStmt, fold-RArm}

-- an assignment that may be absent
abbrev pub assign_count : Option RAssign → ℕ
assign_count None = 0
assign_count (Some a) = 1

-- the beginning of a `for`, which may be absent
abbrev pub init_count : Option RInit → ℕ
init_count None = 0
init_count (Some i) = 1

-- the nodes of a statement, from those of its parts; those of an arm count its test
abbrev pub nodes_at : RStmt-F ℕ ℕ → ℕ
nodes_at RStmt-F.Empty = 0
nodes_at RStmt-F.Break = 0
nodes_at RStmt-F.Continue = 0
nodes_at (RStmt-F.Declare p e) = 1
nodes_at (RStmt-F.Set p e) = 1
nodes_at (RStmt-F.Call p f es) = 1
nodes_at (RStmt-F.Input p) = 1
nodes_at (RStmt-F.Return e) = 1
nodes_at (RStmt-F.ReturnCall f es) = 1
nodes_at RStmt-F.ReturnInput = 1
nodes_at (RStmt-F.Put e) = 1
nodes_at (RStmt-F.Print ps es) = 1
nodes_at RStmt-F.Checkpoint = 1
nodes_at (RStmt-F.Exclude k) = 1
nodes_at (RStmt-F.If arms None) = sum arms
nodes_at (RStmt-F.If arms (Some s)) = sum arms + s
nodes_at (RStmt-F.While e s) = 1 + s
nodes_at (RStmt-F.Do s e) = 1 + s
nodes_at (RStmt-F.For init e update s) = init_count init + 1 + assign_count update + s
nodes_at (RStmt-F.Block ss) = sum ss

abbrev pub arm_nodes_at : RArm-F ℕ ℕ → ℕ
arm_nodes_at a = 1 + a.body

-- each thing that takes a tick is a node
abbrev pub node_count : RStmt → ℕ
node_count = fold-RStmt ℕ ℕ nodes_at arm_nodes_at

-- an arm of an `if`, its test counted
abbrev pub arm_count : RArm → ℕ
arm_count = fold-RArm ℕ ℕ nodes_at arm_nodes_at
