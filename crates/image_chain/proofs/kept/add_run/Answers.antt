use Rattle.image_chain.specs.Memory.{joined, kept_word}
use Rattle.image_chain.proofs.KeptLaws.{run_loaded, run_listed}
use Rattle.image_chain.proofs.kept.add_run.Goals as goal

pub returns-clause-kept : goal.returns-clause-kept
returns-clause-kept c = λ cell.
    let old = kept_word (joined c.args.words.now c.args.listed.now) cell in
    run_listed c.args.bytes.now c.args.first c.args.count cell (kept_word (joined c.load_cells.new.self c.list.new.listed) cell) old
    (run_loaded c.args.words.now c.load_cells.new.self c.args.listed.now c.list.new.listed c.args.bytes.now c.args.first c.args.count cell c.load_cells.ensures.loaded c.load_cells.ensures.same c.list.ensures)
