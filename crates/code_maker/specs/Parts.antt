-- The parts of a program, each of which may have so many instructions.
use Rattle.std.specs.Prelude.{ℕ, ◌+◌, ◌*◌, sum, List, [], ◌∷◌, map, Option, Some, None}
use Rattle.c_tree.specs.declared.tree.PrintPiece.{PrintPiece}
use Rattle.c_tree.specs.declared.tree.PrintPiece.TheVariants as print
use Rattle.c_tree.specs.declared.resolved.RExpr.{RExpr}
use Rattle.c_tree.specs.declared.resolved.RExpr.TheOpen.{RExpr-F}
use Rattle.c_tree.specs.declared.resolved.RExpr.TheFolds.{fold-RExpr}
use Rattle.c_tree.specs.declared.resolved.RPlace.{RPlace}
use Rattle.c_tree.specs.declared.resolved.RPlace.TheVariants as place
use Rattle.c_tree.specs.declared.resolved.RAssign.{RAssign}
use Rattle.c_tree.specs.declared.resolved.RInit.{RInit}
use Rattle.c_tree.specs.declared.resolved.RInit.TheVariants as init
use Rattle.c_tree.specs.declared.resolved.RStmt.{RStmt}
use Rattle.c_tree.specs.declared.resolved.RStmt.TheOpen.{RStmt-F, RArm-F}
use Rattle.c_tree.specs.declared.resolved.RStmt.TheFolds.{fold-RStmt}
use Rattle.c_tree.specs.declared.resolved.Resolved.{Resolved}

-- an expression with those in it
abbrev pub expr_parts_at : RExpr-F ℕ → ℕ
expr_parts_at (RExpr-F.Unary op x) = 1 + x
expr_parts_at (RExpr-F.Binary op x y) = 1 + x + y
expr_parts_at (RExpr-F.And x y) = 1 + x + y
expr_parts_at (RExpr-F.Or x y) = 1 + x + y
expr_parts_at (RExpr-F.Move x y d) = 1 + x + y
expr_parts_at (RExpr-F.Fetch x) = 1 + x
expr_parts_at e = 1

abbrev pub expr_parts : RExpr → ℕ
expr_parts = fold-RExpr ℕ expr_parts_at

abbrev pub some_parts : Option RExpr → ℕ
some_parts None = 0
some_parts (Some e) = expr_parts e

abbrev pub all_parts : List RExpr → ℕ
all_parts es = sum (map expr_parts es)

-- a place, with the pointer in it
abbrev pub place_parts : RPlace → ℕ
place_parts (place.Cell c) = 1
place_parts (place.Local i) = 1
place_parts (place.At e) = 1 + expr_parts e

abbrev pub kept_parts : Option RPlace → ℕ
kept_parts None = 0
kept_parts (Some d) = place_parts d

-- an assignment in the head of a `for` is no statement of its own
abbrev pub assign_parts : RAssign → ℕ
assign_parts a = place_parts a.place + expr_parts a.value

abbrev pub update_parts : Option RAssign → ℕ
update_parts None = 0
update_parts (Some a) = assign_parts a

abbrev pub init_parts : Option RInit → ℕ
init_parts None = 0
init_parts (Some (init.Declare a)) = 1 + assign_parts a
init_parts (Some (init.Set a)) = assign_parts a

-- statements, declared names, expressions and places of a statement, itself included
abbrev pub stmt_parts_at : RStmt-F ℕ ℕ → ℕ
stmt_parts_at (RStmt-F.Declare d e) = 1 + place_parts d + some_parts e
stmt_parts_at (RStmt-F.Set d e) = 1 + place_parts d + expr_parts e
stmt_parts_at (RStmt-F.Call d f es) = 1 + kept_parts d + all_parts es
stmt_parts_at (RStmt-F.Input d) = 1 + kept_parts d
stmt_parts_at (RStmt-F.Return e) = 1 + expr_parts e
stmt_parts_at (RStmt-F.ReturnCall f es) = 1 + all_parts es
stmt_parts_at (RStmt-F.Put e) = 1 + expr_parts e
stmt_parts_at (RStmt-F.Print ps es) = 1 + all_parts es
stmt_parts_at (RStmt-F.If arms None) = 1 + sum arms
stmt_parts_at (RStmt-F.If arms (Some s)) = 1 + sum arms + s
stmt_parts_at (RStmt-F.While e s) = 1 + expr_parts e + s
stmt_parts_at (RStmt-F.Do s e) = 1 + s + expr_parts e
stmt_parts_at (RStmt-F.For i e u s) = 1 + init_parts i + some_parts e + update_parts u + s
stmt_parts_at (RStmt-F.Block ss) = 1 + sum ss
stmt_parts_at s = 1

abbrev pub arm_parts_at : RArm-F ℕ ℕ → ℕ
arm_parts_at a = expr_parts a.test + a.body

abbrev pub stmt_parts : RStmt → ℕ
stmt_parts = fold-RStmt ℕ ℕ stmt_parts_at arm_parts_at

-- the bytes that a print writes itself; its holes are counted with its values
abbrev pub bytes_in : List PrintPiece → ℕ
bytes_in [] = 0
bytes_in (print.Byte b ∷ ps) = 1 + bytes_in ps
bytes_in (print.Number ∷ ps) = bytes_in ps

abbrev pub written_at : RStmt-F ℕ ℕ → ℕ
written_at (RStmt-F.Print ps es) = bytes_in ps
written_at (RStmt-F.If arms None) = sum arms
written_at (RStmt-F.If arms (Some s)) = sum arms + s
written_at (RStmt-F.While e s) = s
written_at (RStmt-F.Do s e) = s
written_at (RStmt-F.For i e u s) = s
written_at (RStmt-F.Block ss) = sum ss
written_at s = 0

abbrev pub arm_written_at : RArm-F ℕ ℕ → ℕ
arm_written_at a = a.body

abbrev pub stmt_written : RStmt → ℕ
stmt_written = fold-RStmt ℕ ℕ written_at arm_written_at

-- a body has its function beside its parts
abbrev pub body_limit : RStmt → ℕ
body_limit body = 16 * (1 + stmt_parts body) + stmt_written body

-- at most 16 instructions for each function, statement, declared name, expression and place, and one for each byte that a print writes itself
abbrev pub instr_limit : Resolved → ℕ
instr_limit p = body_limit p.main.body + sum (map (λ f. body_limit f.body) p.functions)
