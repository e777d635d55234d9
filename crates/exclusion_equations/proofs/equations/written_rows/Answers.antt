use Rattle.std.proofs.Common.{ℕ, List, length, subst, sym}
use Rattle.cell_sets.specs.Sets.{Cells}
use Rattle.path_laws.specs.Reaching.{AllWide}
use Rattle.exclusion_equations.specs.Classes.{class_count}
use Rattle.exclusion_equations.specs.Rows.{AreRows, AreReached, written_at, at_exclude, at_checkpoint}
use Rattle.exclusion_equations.proofs.ReachLaws.{reached}
use Rattle.exclusion_equations.proofs.equations.written_rows.Goals as goal

pub returns : goal.returns
returns c =
    let g = c.args.graph.now in
    let p = c.args.classes.now in
    let w = class_count p in
    let coming = c.in_ok-coming.coming.items in
    let rows = c.in_ok-rows.rows.items in
    record {
      reached = record {
        coming = coming;
        come = subst (λ (x : ℕ). AreReached g x (at_checkpoint g) (at_exclude g) coming) c.count-width.ensures.answer c.in_ok-coming.ensures.reached;
        reached = reached g c.args.edges.now w (written_at g p coming) (at_exclude g) c.deref-2.result.now c.deref-3.result.now rows c.requires.whole c.requires.edges
            (subst (λ (x : List Cells). AreRows w (length g.nodes) (written_at g p coming) x) (sym c.deref-2.ensures.value)
            (subst (λ (x : List Cells). AreRows w (length g.nodes) (written_at g p x) c.in_ok-goals.goals.items) c.deref.ensures.value c.in_ok-goals.ensures.rows))
            (subst (λ (x : List Cells). AreRows w (length g.nodes) (at_exclude g) x) (sym c.deref-3.ensures.value)
            (subst (λ (x : ℕ). AreRows x (length g.nodes) (at_exclude g) c.in_ok-stops.stops.items) c.count-width.ensures.answer c.in_ok-stops.ensures.rows))
            c.in_ok-rows.ensures.exact (subst (λ (x : ℕ). AllWide x rows) c.count-width.ensures.answer c.in_ok-rows.ensures.universe);
      };
    }
