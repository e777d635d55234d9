use Rattle.std.proofs.Common.{◌≡◌, ◌∷◌, drop}
use Rattle.std.specs.Prelude.{max}
use Rattle.flow_graph.specs.Made.{graphs_in}
use Rattle.code_maker.specs.Depths.{deepest}
use Rattle.code_maker.proofs.maker.greatest_depth.Given as goal

abbrev pub invariant-functions : goal.invariant-functions
invariant-functions l = max l.depth (deepest (drop l.f (graphs_in l.graphs).functions)) ≡ deepest ((graphs_in l.graphs).main ∷ (graphs_in l.graphs).functions)
