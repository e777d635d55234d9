-- What a program is compiled to can run, and is that of each source with the program.
use Rattle.std.proofs.Common.{◌≡◌, ◌+◌, ◌≤◌, ℕ, List, [], ◌∷◌, length, replicate, Some, refl, sym, ap, ◌∙◌, subst, arith, length-append}
use Rattle.std.specs.Prelude.{slice_get}
use Rattle.std.specs.List.{Contains}
use Rattle.std.proofs.lemmas.List.{length-replicate}
use Rattle.ckpt_base.specs.Word.{word_of}
use Rattle.c_tree.specs.declared.resolved.RObject.{RObject}
use Rattle.c_tree.specs.declared.resolved.Resolved.{Resolved}
use Rattle.c_tree.specs.Checked.{IsChecked}
use Rattle.c_tree.specs.Excludes.{excludes}
use Rattle.c_tree.specs.Layout.{cell_count, first_words, object_cells, object_words}
use Rattle.path_laws.specs.Graph.{Graph, exclude_count}
use Rattle.exclusion_equations.specs.Excluded.{AreExact}
use Rattle.flow_graph.specs.Checkpoints.{checkpoints_of}
use Rattle.flow_graph.specs.MainGraph.{IsMainGraph}
use Rattle.flow_graph.specs.Run.{graphs_of}
use Rattle.flow_graph.proofs.CheckpointLaws.{checkpoints_exact}
use Rattle.machine_code.specs.declared.instr.Instr.TheVariants.{Excl}
use Rattle.machine_code.specs.Memory.{FitsMemory}
use Rattle.machine_code.specs.Valid.{IsValid}
use Rattle.code_maker.specs.CheckpointPlaces.{CheckpointsAreThere}
use Rattle.code_maker.specs.CodeMeaning.{MeansGraphs}
use Rattle.run_images.specs.Compiled.{CompiledView, IsCompiled}
use Rattle.run_images.specs.Source.{Source, IsSource}
use Rattle.compiled_program.specs.CanRun.{AreSetsOf, CanRun}
use Rattle.flow_graph.proofs.MainWhole.{excludes_are}
use Rattle.compiled_program.proofs.ExactSets.{same_sets, dead_sets, read_only_sets}

length_objects : (os : List RObject) → length (object_words os) ≡ object_cells os
length_objects [] = refl
length_objects (o ∷ os) = length-append (replicate o.length (word_of o.first)) (object_words os) ∙ ap (λ (n : ℕ). n + length (object_words os)) (length-replicate o.length (word_of o.first)) ∙ ap (λ (n : ℕ). o.length + n) (length_objects os)

pub length_words : (p : Resolved) → length (first_words p) ≡ cell_count p
length_words p =
    let locals = length p.main.locals in
    let zeros : List ℕ = replicate locals 0 in
    length-append (object_words p.objects) zeros ∙ ap (λ (n : ℕ). n + length zeros) (length_objects p.objects) ∙ ap (λ (n : ℕ). object_cells p.objects + n) (length-replicate locals 0)

-- what was made of a program
pub record IsMade (p : Resolved) (g : Graph) (c : CompiledView) : Type 0 where
  pub checked : IsChecked p
  pub main : IsMainGraph p g
  pub means : MeansGraphs p c.code
  pub valid : IsValid c.code
  pub fits : FitsMemory c.code (cell_count p)
  pub named : (q k : ℕ) → slice_get c.code.instrs q ≡ Some (Excl k) → (1 ≤ k) × (k ≤ length (excludes p.main.body))
  pub there : CheckpointsAreThere p c.code
  pub exact : AreExact g c.sets
  pub words : c.words ≡ first_words p
  pub checkpoints : c.checkpoints ≡ checkpoints_of (graphs_of p).main.works
  pub directives : c.directives ≡ length (excludes p.main.body)

pub made_runs : (p : Resolved) (g : Graph) (c : CompiledView) → IsMade p g c → CanRun c
made_runs p g c m =
    let cells : length c.words ≡ cell_count p = ap length m.words ∙ length_words p in
    let count : exclude_count g ≡ c.directives = excludes_are p g m.main ∙ sym m.directives in
    let same : g.cells ≡ length c.words = m.main.cells ∙ sym cells in
    record {
      valid = m.valid;
      fits = subst (FitsMemory c.code) (sym cells) m.fits;
      few = omega (arith, cells, m.checked.cells);
      dead = subst (λ (n : ℕ). AreSetsOf n (length c.words) c.sets.dead) count (subst (λ (n : ℕ). AreSetsOf (exclude_count g) n c.sets.dead) same (dead_sets g c.sets m.exact));
      read_only = subst (λ (n : ℕ). AreSetsOf n (length c.words) c.sets.read_only) count (subst (λ (n : ℕ). AreSetsOf (exclude_count g) n c.sets.read_only) same (read_only_sets g c.sets m.exact));
      few_directives = omega (arith, m.directives, m.checked.few_excludes);
      directives = λ q k here. let is = m.named q k here in (is.0, omega (arith, is.1, m.directives));
      nodes = λ q n here. m.there.below n (m.there.nodes q n here);
      places = λ n here. m.there.places n ((checkpoints_exact (graphs_of p).main.works n).0 (subst (λ (ns : List ℕ). Contains ns n) m.checkpoints here));
    }

pub made_is : (p : Resolved) (g : Graph) (c : CompiledView) → IsMade p g c → (s : Source) → IsSource s → s.program ≡ p → IsCompiled s c
made_is p g c m s source same = record {
  code = subst (λ (q : Resolved). MeansGraphs q c.code) (sym same) m.means;
  sets = same_sets p g s.graph c.sets s.sets m.main (subst (λ (q : Resolved). IsMainGraph q s.graph) same source.graph) m.exact source.sets;
  words = m.words ∙ ap first_words (sym same);
  checkpoints = m.checkpoints ∙ ap (λ (q : Resolved). checkpoints_of (graphs_of q).main.works) (sym same);
  directives = m.directives ∙ ap (λ (q : Resolved). length (excludes q.main.body)) (sym same);
}
