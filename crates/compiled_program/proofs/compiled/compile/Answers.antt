use Rattle.std.proofs.Common.{◌∙◌, sym, ap, subst}
use Rattle.c_tree.specs.Checked.{IsChecked}
use Rattle.path_laws.specs.Graph.{Graph, exclude_count}
use Rattle.flow_graph.specs.Made.{effects_in}
use Rattle.exclusion_equations.specs.Excluded.{Sets, AreExact}
use Rattle.flow_graph.proofs.MainWhole.{excludes_are}
use Rattle.compiled_program.proofs.CompiledLaws.{made_runs, made_is}
use Rattle.compiled_program.proofs.compiled.compile.Goals as goal

pub rows_of-requires-clause-count : goal.rows_of-requires-clause-count
rows_of-requires-clause-count c = ap exclude_count c.main.ensures.answer ∙ excludes_are c.args.program.now (effects_in c.args.graphs.now) c.requires.main ∙ sym c.excludes.ensures.answer

pub invariant_of-result : goal.invariant_of-result
invariant_of-result c =
    let p = c.args.program.now in
    let g = effects_in c.args.graphs.now in
    let sets : Sets = record { dead = c.in_ok-rows.rows.dead.items; read_only = c.in_ok-rows.rows.read_only.items } in
    let exact = subst (λ (h : Graph). AreExact h sets) c.main.ensures.answer c.in_ok-rows.ensures.exact in
    made_runs p g _ (record {
      checked = subst IsChecked c.tree-tree.ensures.answer c.tree-tree.ensures.checked;
      main = c.requires.main;
      means = c.in_ok-code.ensures.means;
      valid = c.in_ok-code.ensures.valid;
      fits = c.in_ok-code.ensures.fits;
      named = c.in_ok-code.ensures.directives;
      there = c.in_ok-code.ensures.checkpoints;
      exact = exact;
      words = c.in_ok-words.ensures.answer;
      checkpoints = c.in_ok-checkpoints.ensures.answer ∙ c.checkpoints.ensures.answer ∙ c.requires.checkpoints;
      directives = exact.dead_len ∙ excludes_are p g c.requires.main;
    })

pub returns : goal.returns
returns c =
    let p = c.args.program.now in
    let g = effects_in c.args.graphs.now in
    let sets : Sets = record { dead = c.in_ok-rows.rows.dead.items; read_only = c.in_ok-rows.rows.read_only.items } in
    let exact = subst (λ (h : Graph). AreExact h sets) c.main.ensures.answer c.in_ok-rows.ensures.exact in
    record {
      answer = made_is p g _ (record {
        checked = subst IsChecked c.tree-tree.ensures.answer c.tree-tree.ensures.checked;
        main = c.requires.main;
        means = c.in_ok-code.ensures.means;
        valid = c.in_ok-code.ensures.valid;
        fits = c.in_ok-code.ensures.fits;
        named = c.in_ok-code.ensures.directives;
        there = c.in_ok-code.ensures.checkpoints;
        exact = exact;
        words = c.in_ok-words.ensures.answer;
        checkpoints = c.in_ok-checkpoints.ensures.answer ∙ c.checkpoints.ensures.answer ∙ c.requires.checkpoints;
        directives = exact.dead_len ∙ excludes_are p g c.requires.main;
      });
    }
