use Rattle.std.proofs.Common.{true, refl, arith}
use Rattle.parity_store.specs.declared.header.PoolHeader.{PoolHeader}
use Rattle.parity_store.specs.Layout.{IsPoolHeader}
use Rattle.parity_store.proofs.WritingLaws.{start_moments, started, others_kept}
use Rattle.parity_store.proofs.piece.Pieces.start.Goals as goal

pub returns-in_err-start_file-clause-any_moment : goal.returns-in_err-start_file-clause-any_moment
returns-in_err-start_file-clause-any_moment g c = λ tells n aside.
    let h : PoolHeader = record { generation = c.args.generation; size = c.args.size; jobs = c.args.jobs; gate_open = true } in
    let held : IsPoolHeader h = record { generation = c.requires.some; generation_held = omega arith; ranges = c.requires.ranges } in
    start_moments c.args.file h n _ c.start_file.result _ _ c.start_file.ensures.answer tells (g.met.D.Disk.lawful c.args.disk.now tells) held c.write_header-header.ensures.answer aside

pub returns-clause-answer : goal.returns-clause-answer
returns-clause-answer g c = λ tells.
    let h : PoolHeader = record { generation = c.args.generation; size = c.args.size; jobs = c.args.jobs; gate_open = true } in
    started _ h _ _ _ (c.in_ok-start_file.ensures.answer.does tells) refl refl c.write_header-header.ensures.answer

pub returns-clause-any_moment : goal.returns-clause-any_moment
returns-clause-any_moment g c = λ tells n aside.
    let h : PoolHeader = record { generation = c.args.generation; size = c.args.size; jobs = c.args.jobs; gate_open = true } in
    let held : IsPoolHeader h = record { generation = c.requires.some; generation_held = omega arith; ranges = c.requires.ranges } in
    start_moments c.args.file h n _ c.start_file.result _ _ c.start_file.ensures.answer tells (g.met.D.Disk.lawful c.args.disk.now tells) held c.write_header-header.ensures.answer aside

pub returns-clause-others : goal.returns-clause-others
returns-clause-others g c = λ tells. others_kept c.args.file _ c.start_file.result _ _ tells c.start_file.ensures.answer
