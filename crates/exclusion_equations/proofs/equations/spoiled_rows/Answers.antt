use Rattle.std.proofs.Common.{ℕ, List, length, subst, sym}
use Rattle.cell_sets.specs.Sets.{Cells}
use Rattle.exclusion_equations.specs.Rows.{AreRows, AreReached, wanted_at, at_exclude}
use Rattle.exclusion_equations.proofs.ReachLaws.{reached}
use Rattle.exclusion_equations.proofs.equations.spoiled_rows.Goals as goal

pub returns : goal.returns
returns c =
    let g = c.args.graph.now in
    let w = c.count-width.result in
    let wanted = c.in_ok-wanted.wanted.items in
    let rows = c.in_ok-rows.rows.items in
    record {
      reached = record {
        wanted = wanted;
        want = c.in_ok-wanted.ensures.reached;
        reached = subst (λ (x : ℕ). AreReached g x (wanted_at g wanted) (at_exclude g) rows) c.count-width.ensures.answer
            (reached g c.args.edges.now w (wanted_at g wanted) (at_exclude g) c.deref-2.result.now c.deref-3.result.now rows c.requires.whole c.requires.edges
            (subst (λ (x : List Cells). AreRows w (length g.nodes) (wanted_at g wanted) x) (sym c.deref-2.ensures.value)
            (subst (λ (x : List Cells). AreRows w (length g.nodes) (wanted_at g x) c.in_ok-goals.goals.items) c.deref.ensures.value c.in_ok-goals.ensures.rows))
            (subst (λ (x : List Cells). AreRows w (length g.nodes) (at_exclude g) x) (sym c.deref-3.ensures.value) c.in_ok-stops.ensures.rows)
            c.in_ok-rows.ensures.exact c.in_ok-rows.ensures.universe);
      };
    }
