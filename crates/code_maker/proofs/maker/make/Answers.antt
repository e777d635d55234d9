use Rattle.std.proofs.Common.{◌≡◌, ◌≤◌, length, Some, None, rules, sym, subst}
use Rattle.std.specs.Prelude.{slice_get}
use Rattle.c_tree.specs.Layout.{cell_count}
use Rattle.c_tree.specs.Checked.{IsChecked}
use Rattle.flow_graph.specs.Made.{graphs_in}
use Rattle.machine_code.specs.declared.instr.Instr.TheVariants.{Excl}
use Rattle.machine_code.specs.CodeView.{CodeView}
use Rattle.machine_code.specs.Valid.{IsValid}
use Rattle.machine_code.specs.Memory.{FitsMemory}
use Rattle.code_maker.specs.CheckpointPlaces.{CheckpointsAreThere}
use Rattle.code_maker.specs.CodeMeaning.{MeansGraphs}
use Rattle.code_maker.specs.Parts.{instr_limit}
use Rattle.code_maker.specs.ProgramCode.{graph_for}
use Rattle.code_maker.proofs.Making.{have_both, starts_length}
use Rattle.code_maker.proofs.Meaning.{code_means}
use Rattle.code_maker.proofs.CheckpointLaws.{checkpoints_there}
use Rattle.code_maker.proofs.ValidLaws.{code_is_valid, code_fits, directive_there}
use Rattle.code_maker.proofs.SizePrograms.{code_small}
use Rattle.code_maker.proofs.maker.make.Goals as goal

pub checkpoint_table-requires-clause-starts : goal.checkpoint_table-requires-clause-starts
checkpoint_table-requires-clause-starts c =
    let gs = graphs_in c.args.graphs.now in
    starts_length (graph_for gs None) _ c.in_ok-starts.starts.items c.as_slice.result.now (have_both c.args.program.now gs c.requires.graphs None) c.in_ok-starts.ensures.starts c.as_slice.ensures.value

pub emit_functions-requires-clause-both : goal.emit_functions-requires-clause-both
emit_functions-requires-clause-both c = have_both c.args.program.now (graphs_in c.args.graphs.now) c.requires.graphs

pub greatest_depth-requires-clause-both : goal.greatest_depth-requires-clause-both
greatest_depth-requires-clause-both c = have_both c.args.program.now (graphs_in c.args.graphs.now) c.requires.graphs

pub returns-clause-code : goal.returns-clause-code
returns-clause-code c = search rules

pub returns-clause-valid : goal.returns-clause-valid
returns-clause-valid c =
    let checked = subst IsChecked c.tree-tree.ensures.answer c.tree-tree.ensures.checked in
    subst IsValid (sym (returns-clause-code c)) (code_is_valid c.args.program.now checked)

pub returns-clause-fits : goal.returns-clause-fits
returns-clause-fits c =
    let p = c.args.program.now in
    let checked = subst IsChecked c.tree-tree.ensures.answer c.tree-tree.ensures.checked in
    subst (λ (v : CodeView). FitsMemory v (cell_count p)) (sym (returns-clause-code c)) (code_fits p checked)

pub returns-clause-directives : goal.returns-clause-directives
returns-clause-directives c q k e =
    let checked = subst IsChecked c.tree-tree.ensures.answer c.tree-tree.ensures.checked in
    directive_there c.args.program.now checked q k (subst (λ (v : CodeView). slice_get v.instrs q ≡ Some (Excl k)) (returns-clause-code c) e)

pub returns-clause-checkpoints : goal.returns-clause-checkpoints
returns-clause-checkpoints c =
    let p = c.args.program.now in
    let checked = subst IsChecked c.tree-tree.ensures.answer c.tree-tree.ensures.checked in
    subst (CheckpointsAreThere p) (sym (returns-clause-code c)) (checkpoints_there p checked)

pub returns-clause-means : goal.returns-clause-means
returns-clause-means c =
    let p = c.args.program.now in
    let checked = subst IsChecked c.tree-tree.ensures.answer c.tree-tree.ensures.checked in
    subst (MeansGraphs p) (sym (returns-clause-code c)) (code_means p checked)

pub returns-clause-size : goal.returns-clause-size
returns-clause-size c =
    let p = c.args.program.now in
    let checked = subst IsChecked c.tree-tree.ensures.answer c.tree-tree.ensures.checked in
    subst (λ (v : CodeView). length v.instrs ≤ instr_limit p) (sym (returns-clause-code c)) (code_small p checked)
