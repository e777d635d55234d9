use Rattle.std.proofs.Common.{ℕ, List, length, subst, sym}
use Rattle.cell_sets.specs.Sets.{Cells}
use Rattle.path_laws.specs.Reaching.{AllWide}
use Rattle.exclusion_equations.specs.declared.equations.Effect.TheVariants.{Reads, Kills}
use Rattle.exclusion_equations.specs.Classes.{class_count}
use Rattle.exclusion_equations.specs.Rows.{AreRows, has_effect}
use Rattle.exclusion_equations.proofs.ReachLaws.{reached}
use Rattle.exclusion_equations.proofs.equations.wanted_rows.Goals as goal

pub returns : goal.returns
returns c =
    let g = c.args.graph.now in
    let p = c.args.classes.now in
    record {
      reached = reached g c.args.edges.now (class_count p) (has_effect Reads g p) (has_effect Kills g p) c.deref.result.now c.deref-2.result.now c.in_ok-rows.rows.items c.requires.whole c.requires.edges
          (subst (λ (x : List Cells). AreRows (class_count p) (length g.nodes) (has_effect Reads g p) x) (sym c.deref.ensures.value) c.in_ok-reads.ensures.rows)
          (subst (λ (x : List Cells). AreRows (class_count p) (length g.nodes) (has_effect Kills g p) x) (sym c.deref-2.ensures.value) c.in_ok-kills.ensures.rows)
          c.in_ok-rows.ensures.exact (subst (λ (w : ℕ). AllWide w c.in_ok-rows.rows.items) c.count.ensures.answer c.in_ok-rows.ensures.universe);
    }
