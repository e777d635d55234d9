use Rattle.std.proofs.Common.{◌∙◌, [], sym, subst, IsTrue}
use Rattle.disk_model.specs.declared.disk_file.DiskFile.{DiskFile}
use Rattle.parity_store.specs.Writing.{IsWritten, empty_text}
use Rattle.parity_store.proofs.WritingLaws.{wrote_then, written_all}
use Rattle.parity_store.proofs.make.write_empty.Goals as goal

pub returns-in_err-write_empty_entries-clause-wrote : goal.returns-in_err-write_empty_entries-clause-wrote
returns-in_err-write_empty_entries-clause-wrote g c = λ tells h was. c.write_empty_entries.ensures.wrote tells h [] was

pub write_empty_slots-requires-clause-writing : goal.write_empty_slots-requires-clause-writing
write_empty_slots-requires-clause-writing g c = λ mid.
    let tells = subst IsTrue c.write_empty_entries.ensures.steady.tells mid in
    let s = c.requires.writing tells in
    (s.0, (_, c.in_ok-write_empty_entries.ensures.answer tells s.0 [] s.1))

pub returns-in_err-write_empty_slots-clause-wrote : goal.returns-in_err-write_empty_slots-clause-wrote
returns-in_err-write_empty_slots-clause-wrote g c = λ tells h was.
    let mid = subst IsTrue (sym c.write_empty_entries.ensures.steady.tells) tells in
    let one = c.write_empty_entries.ensures.wrote tells h [] was in
    let entries = c.in_ok-write_empty_entries.ensures.answer tells h [] was in
    let f = c.args.pieces.now.file in
    let two = wrote_then f _ h _ _ _ tells c.write_empty_entries.ensures.file one (c.write_empty_slots.ensures.wrote mid h _ entries) in
    two

pub write_piece-requires-clause-writing : goal.write_piece-requires-clause-writing
write_piece-requires-clause-writing g c = λ end.
    let mid = subst IsTrue c.write_empty_slots.ensures.steady.tells end in
    let tells = subst IsTrue c.write_empty_entries.ensures.steady.tells mid in
    let s = c.requires.writing tells in
    (s.0, (_, c.in_ok-write_empty_slots.ensures.answer mid s.0 _ (c.in_ok-write_empty_entries.ensures.answer tells s.0 [] s.1)))

pub returns-in_err-write_piece-clause-wrote : goal.returns-in_err-write_piece-clause-wrote
returns-in_err-write_piece-clause-wrote g c = λ tells h was.
    let mid = subst IsTrue (sym c.write_empty_entries.ensures.steady.tells) tells in
    let one = c.write_empty_entries.ensures.wrote tells h [] was in
    let entries = c.in_ok-write_empty_entries.ensures.answer tells h [] was in
    let f = c.args.pieces.now.file in
    let two = wrote_then f _ h _ _ _ tells c.write_empty_entries.ensures.file one (c.write_empty_slots.ensures.wrote mid h _ entries) in
    let end = subst IsTrue (sym c.write_empty_slots.ensures.steady.tells) mid in
    let slots = c.in_ok-write_empty_slots.ensures.answer mid h _ entries in
    wrote_then f _ h _ _ _ tells (c.write_empty_slots.ensures.file ∙ c.write_empty_entries.ensures.file) two (c.write_piece.ensures.wrote end h _ slots)

pub returns-clause-wrote : goal.returns-clause-wrote
returns-clause-wrote g c = λ tells h was.
    let mid = subst IsTrue (sym c.write_empty_entries.ensures.steady.tells) tells in
    let one = c.write_empty_entries.ensures.wrote tells h [] was in
    let entries = c.in_ok-write_empty_entries.ensures.answer tells h [] was in
    let f = c.args.pieces.now.file in
    let two = wrote_then f _ h _ _ _ tells c.write_empty_entries.ensures.file one (c.write_empty_slots.ensures.wrote mid h _ entries) in
    let end = subst IsTrue (sym c.write_empty_slots.ensures.steady.tells) mid in
    let slots = c.in_ok-write_empty_slots.ensures.answer mid h _ entries in
    wrote_then f _ h _ _ _ tells (c.write_empty_slots.ensures.file ∙ c.write_empty_entries.ensures.file) two (c.write_piece.ensures.wrote end h _ slots)

pub returns-clause-answer : goal.returns-clause-answer
returns-clause-answer g c = λ tells h was.
    let mid = subst IsTrue (sym c.write_empty_entries.ensures.steady.tells) tells in
    let end = subst IsTrue (sym c.write_empty_slots.ensures.steady.tells) mid in
    let entries = c.in_ok-write_empty_entries.ensures.answer tells h [] was in
    let slots = c.in_ok-write_empty_slots.ensures.answer mid h _ entries in
    let v = g.D.Disk.view c.write_piece.new.disk in
    let text = empty_text c.args.jobs c.args.size in
    subst (λ (f : DiskFile). IsWritten f h v text) (c.write_piece.ensures.file ∙ c.write_empty_slots.ensures.file ∙ c.write_empty_entries.ensures.file) (written_all c.write_piece.new.self h v text c.in_ok-write_piece.ensures.empty (c.in_ok-write_piece.ensures.answer end h _ slots))
