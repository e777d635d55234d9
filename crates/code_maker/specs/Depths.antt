-- How many operands a code needs.
use Rattle.std.specs.Prelude.{ℕ, ◌+◌, max, List, [], ◌∷◌, Option, Some, None}
use Rattle.c_tree.specs.declared.resolved.RExpr.{RExpr}
use Rattle.c_tree.specs.declared.resolved.RExpr.TheOpen.{RExpr-F}
use Rattle.c_tree.specs.declared.resolved.RExpr.TheFolds.{fold-RExpr}
use Rattle.c_tree.specs.declared.resolved.RPlace.{RPlace}
use Rattle.c_tree.specs.declared.resolved.RPlace.TheVariants as place
use Rattle.flow_graph.specs.declared.node.NodeWork.{NodeWork}
use Rattle.flow_graph.specs.declared.node.NodeWork.TheVariants as work
use Rattle.flow_graph.specs.Run.{Graph}

-- the greatest number of operands while an expression is evaluated, from those of its parts
abbrev pub expr_depth_at : RExpr-F ℕ → ℕ
expr_depth_at (RExpr-F.Unary op x) = x
expr_depth_at (RExpr-F.Binary op x y) = max x (y + 1)
expr_depth_at (RExpr-F.And x y) = max x y
expr_depth_at (RExpr-F.Or x y) = max x y
expr_depth_at (RExpr-F.Move x y d) = max x (y + 1)
expr_depth_at (RExpr-F.Fetch x) = x
expr_depth_at e = 1

abbrev pub expr_depth : RExpr → ℕ
expr_depth = fold-RExpr ℕ expr_depth_at

abbrev pub values_depth : List RExpr → ℕ
values_depth [] = 0
values_depth (e ∷ es) = max (expr_depth e) (values_depth es + 1)

abbrev pub set_depth : RPlace → ℕ → ℕ
set_depth (place.Cell c) value = value
set_depth (place.Local i) value = value
set_depth (place.At e) value = max (expr_depth e) (value + 1)

abbrev pub given_depth : Option RExpr → ℕ
given_depth None = 1
given_depth (Some e) = expr_depth e

-- .. while a node is done
abbrev pub work_depth : NodeWork → ℕ
work_depth (work.Declare d e) = set_depth d (given_depth e)
work_depth (work.Set d e) = set_depth d (expr_depth e)
work_depth (work.Call d f es) = max (values_depth es) 1
work_depth (work.Return e) = expr_depth e
work_depth (work.ReturnCall f es) = max (values_depth es) 1
work_depth (work.Put e) = expr_depth e
work_depth (work.Print ps es) = values_depth es
work_depth (work.Test e) = expr_depth e
work_depth w = 1

abbrev pub works_depth : List NodeWork → ℕ
works_depth [] = 0
works_depth (w ∷ ws) = max (work_depth w) (works_depth ws)

abbrev pub deepest : List Graph → ℕ
deepest [] = 0
deepest (g ∷ gs) = max (works_depth g.works) (deepest gs)
