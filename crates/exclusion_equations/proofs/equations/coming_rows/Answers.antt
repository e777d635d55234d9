use Rattle.std.proofs.Common.{List, length, subst, sym}
use Rattle.cell_sets.specs.Sets.{Cells}
use Rattle.exclusion_equations.specs.Rows.{AreRows, at_checkpoint, at_exclude}
use Rattle.exclusion_equations.proofs.ReachLaws.{reached}
use Rattle.exclusion_equations.proofs.equations.coming_rows.Goals as goal

pub returns : goal.returns
returns c =
    let g = c.args.graph.now in
    record {
      reached = reached g c.args.edges.now c.args.width (at_checkpoint g) (at_exclude g) c.deref.result.now c.deref-2.result.now c.in_ok-rows.rows.items c.requires.whole c.requires.edges
          (subst (λ (x : List Cells). AreRows c.args.width (length g.nodes) (at_checkpoint g) x) (sym c.deref.ensures.value) c.in_ok-goals.ensures.rows)
          (subst (λ (x : List Cells). AreRows c.args.width (length g.nodes) (at_exclude g) x) (sym c.deref-2.ensures.value) c.in_ok-stops.ensures.rows)
          c.in_ok-rows.ensures.exact c.in_ok-rows.ensures.universe;
    }
