use Rattle.std.proofs.Common.{rules, ◌≡◌, ◌∙◌, ◌++◌, [], ap, sym, subst, length, IsTrue}
use Rattle.disk_model.specs.declared.disk_file.DiskFile.{DiskFile}
use Rattle.disk_model.specs.Store.{file_of}
use Rattle.parity_store.specs.Slots.{padded}
use Rattle.parity_store.specs.Writing.{IsWritten, entry_bytes, put_entry, put_slot, joined}
use Rattle.parity_store.proofs.PutLaws.{put_text_is}
use Rattle.parity_store.proofs.WritingLaws.{wrote_then, written_all, source_is}
use Rattle.parity_store.proofs.rewrite.write_text.Goals as goal

pub returns-in_err-write_entries-clause-wrote : goal.returns-in_err-write_entries-clause-wrote
returns-in_err-write_entries-clause-wrote g c = λ tells n was.
    let one = c.write_entries.ensures.wrote tells n [] was in
    one

pub write_job_slots-requires-clause-whole : goal.write_job_slots-requires-clause-whole
write_job_slots-requires-clause-whole g c = λ mid.
    let tells = subst IsTrue c.write_entries.ensures.steady.tells mid in
    let s = c.requires.writing tells in
    let one = c.write_entries.ensures.wrote tells s.0 [] s.1 in
    ap length (source_is c.args.file c.args.pieces.now.file (g.D.Disk.view c.args.disk.now) (g.D.Disk.view c.write_entries.new.disk) c.requires.apart one.others) ∙ c.requires.whole tells

pub write_job_slots-requires-clause-writing : goal.write_job_slots-requires-clause-writing
write_job_slots-requires-clause-writing g c = λ mid.
    let tells = subst IsTrue c.write_entries.ensures.steady.tells mid in
    let s = c.requires.writing tells in
    (s.0, (_, c.in_ok-write_entries.ensures.answer tells s.0 [] s.1))

pub returns-in_err-write_job_slots-clause-wrote : goal.returns-in_err-write_job_slots-clause-wrote
returns-in_err-write_job_slots-clause-wrote g c = λ tells n was.
    let one = c.write_entries.ensures.wrote tells n [] was in
    let t1 = subst IsTrue (sym c.write_entries.ensures.steady.tells) tells in
    let entries = c.in_ok-write_entries.ensures.answer tells n [] was in
    let two = wrote_then c.args.pieces.now.file _ n (g.D.Disk.view c.args.disk.now) (g.D.Disk.view c.write_entries.new.disk) (g.D.Disk.view c.write_job_slots.new.disk) tells c.write_entries.ensures.file one (c.write_job_slots.ensures.wrote t1 n _ entries) in
    two

pub push-requires-clause-writing : goal.push-requires-clause-writing
push-requires-clause-writing g c = λ late.
    let mid = subst IsTrue c.write_job_slots.ensures.steady.tells late in
    let tells = subst IsTrue c.write_entries.ensures.steady.tells mid in
    let s = c.requires.writing tells in
    (s.0, (_, c.in_ok-write_job_slots.ensures.answer mid s.0 _ (c.in_ok-write_entries.ensures.answer tells s.0 [] s.1)))

pub returns-in_err-push-clause-wrote : goal.returns-in_err-push-clause-wrote
returns-in_err-push-clause-wrote g c = λ tells n was.
    let one = c.write_entries.ensures.wrote tells n [] was in
    let t1 = subst IsTrue (sym c.write_entries.ensures.steady.tells) tells in
    let entries = c.in_ok-write_entries.ensures.answer tells n [] was in
    let two = wrote_then c.args.pieces.now.file _ n (g.D.Disk.view c.args.disk.now) (g.D.Disk.view c.write_entries.new.disk) (g.D.Disk.view c.write_job_slots.new.disk) tells c.write_entries.ensures.file one (c.write_job_slots.ensures.wrote t1 n _ entries) in
    let t2 = subst IsTrue (sym c.write_job_slots.ensures.steady.tells) t1 in
    let slots = c.in_ok-write_job_slots.ensures.answer t1 n _ entries in
    let three = wrote_then c.args.pieces.now.file _ n (g.D.Disk.view c.args.disk.now) (g.D.Disk.view c.write_job_slots.new.disk) (g.D.Disk.view c.push.new.disk) tells (c.write_job_slots.ensures.file ∙ c.write_entries.ensures.file) two (c.push.ensures.wrote t2 n _ slots) in
    three

pub write_piece-requires-clause-writing : goal.write_piece-requires-clause-writing
write_piece-requires-clause-writing g c = λ end.
    let late = subst IsTrue c.push.ensures.steady.tells end in
    let mid = subst IsTrue c.write_job_slots.ensures.steady.tells late in
    let tells = subst IsTrue c.write_entries.ensures.steady.tells mid in
    let s = c.requires.writing tells in
    (s.0, (_, c.in_ok-push.ensures.answer late s.0 _ (c.in_ok-write_job_slots.ensures.answer mid s.0 _ (c.in_ok-write_entries.ensures.answer tells s.0 [] s.1))))

pub returns-in_err-write_piece-clause-wrote : goal.returns-in_err-write_piece-clause-wrote
returns-in_err-write_piece-clause-wrote g c = λ tells n was.
    let one = c.write_entries.ensures.wrote tells n [] was in
    let t1 = subst IsTrue (sym c.write_entries.ensures.steady.tells) tells in
    let entries = c.in_ok-write_entries.ensures.answer tells n [] was in
    let two = wrote_then c.args.pieces.now.file _ n (g.D.Disk.view c.args.disk.now) (g.D.Disk.view c.write_entries.new.disk) (g.D.Disk.view c.write_job_slots.new.disk) tells c.write_entries.ensures.file one (c.write_job_slots.ensures.wrote t1 n _ entries) in
    let t2 = subst IsTrue (sym c.write_job_slots.ensures.steady.tells) t1 in
    let slots = c.in_ok-write_job_slots.ensures.answer t1 n _ entries in
    let three = wrote_then c.args.pieces.now.file _ n (g.D.Disk.view c.args.disk.now) (g.D.Disk.view c.write_job_slots.new.disk) (g.D.Disk.view c.push.new.disk) tells (c.write_job_slots.ensures.file ∙ c.write_entries.ensures.file) two (c.push.ensures.wrote t2 n _ slots) in
    let t3 = subst IsTrue (sym c.push.ensures.steady.tells) t2 in
    let all = c.in_ok-push.ensures.answer t2 n _ slots in
    let four = wrote_then c.args.pieces.now.file _ n (g.D.Disk.view c.args.disk.now) (g.D.Disk.view c.push.new.disk) (g.D.Disk.view c.write_piece.new.disk) tells (c.push.ensures.file ∙ (c.write_job_slots.ensures.file ∙ c.write_entries.ensures.file)) three (c.write_piece.ensures.wrote t3 n _ all) in
    four

pub returns-clause-wrote : goal.returns-clause-wrote
returns-clause-wrote g c = λ tells n was.
    let one = c.write_entries.ensures.wrote tells n [] was in
    let t1 = subst IsTrue (sym c.write_entries.ensures.steady.tells) tells in
    let entries = c.in_ok-write_entries.ensures.answer tells n [] was in
    let two = wrote_then c.args.pieces.now.file _ n (g.D.Disk.view c.args.disk.now) (g.D.Disk.view c.write_entries.new.disk) (g.D.Disk.view c.write_job_slots.new.disk) tells c.write_entries.ensures.file one (c.write_job_slots.ensures.wrote t1 n _ entries) in
    let t2 = subst IsTrue (sym c.write_job_slots.ensures.steady.tells) t1 in
    let slots = c.in_ok-write_job_slots.ensures.answer t1 n _ entries in
    let three = wrote_then c.args.pieces.now.file _ n (g.D.Disk.view c.args.disk.now) (g.D.Disk.view c.write_job_slots.new.disk) (g.D.Disk.view c.push.new.disk) tells (c.write_job_slots.ensures.file ∙ c.write_entries.ensures.file) two (c.push.ensures.wrote t2 n _ slots) in
    let t3 = subst IsTrue (sym c.push.ensures.steady.tells) t2 in
    let all = c.in_ok-push.ensures.answer t2 n _ slots in
    let four = wrote_then c.args.pieces.now.file _ n (g.D.Disk.view c.args.disk.now) (g.D.Disk.view c.push.new.disk) (g.D.Disk.view c.write_piece.new.disk) tells (c.push.ensures.file ∙ (c.write_job_slots.ensures.file ∙ c.write_entries.ensures.file)) three (c.write_piece.ensures.wrote t3 n _ all) in
    four

pub returns-clause-answer : goal.returns-clause-answer
returns-clause-answer g c = λ tells n was.
    let one = c.write_entries.ensures.wrote tells n [] was in
    let t1 = subst IsTrue (sym c.write_entries.ensures.steady.tells) tells in
    let entries = c.in_ok-write_entries.ensures.answer tells n [] was in
    let two = wrote_then c.args.pieces.now.file _ n (g.D.Disk.view c.args.disk.now) (g.D.Disk.view c.write_entries.new.disk) (g.D.Disk.view c.write_job_slots.new.disk) tells c.write_entries.ensures.file one (c.write_job_slots.ensures.wrote t1 n _ entries) in
    let t2 = subst IsTrue (sym c.write_job_slots.ensures.steady.tells) t1 in
    let slots = c.in_ok-write_job_slots.ensures.answer t1 n _ entries in
    let three = wrote_then c.args.pieces.now.file _ n (g.D.Disk.view c.args.disk.now) (g.D.Disk.view c.write_job_slots.new.disk) (g.D.Disk.view c.push.new.disk) tells (c.write_job_slots.ensures.file ∙ c.write_entries.ensures.file) two (c.push.ensures.wrote t2 n _ slots) in
    let t3 = subst IsTrue (sym c.push.ensures.steady.tells) t2 in
    let all = c.in_ok-push.ensures.answer t2 n _ slots in
    let four = wrote_then c.args.pieces.now.file _ n (g.D.Disk.view c.args.disk.now) (g.D.Disk.view c.push.new.disk) (g.D.Disk.view c.write_piece.new.disk) tells (c.push.ensures.file ∙ (c.write_job_slots.ensures.file ∙ c.write_entries.ensures.file)) three (c.write_piece.ensures.wrote t3 n _ all) in
    let r0 = c.args.slots.now.rebuilt.items in
    let kept = c.write_entries.ensures.kept in
    let again = c.write_job_slots.ensures.kept in
    let whole = ((joined (put_entry (file_of c.args.file (g.D.Disk.view c.args.disk.now).seen) c.args.put.now.job (entry_bytes (length c.args.put.now.bytes.now) (padded c.args.h.now.size c.args.put.now.bytes.now))) c.args.h.now.jobs ++ entry_bytes c.args.h.now.size c.args.slots.now.parity.items) ++ joined (put_slot c.args.h.now (file_of c.args.file (g.D.Disk.view c.write_entries.new.disk).seen) c.args.put.now.job c.args.put.now.bytes.now c.args.put.now.lost c.write_entries.new.slots.rebuilt.items) c.args.h.now.jobs) ++ c.deref.result.now in
    let last : c.deref.result.now ≡ c.write_job_slots.new.slots.parity.items = search rules in
    let text_is = put_text_is c.args.h.now (file_of c.args.file (g.D.Disk.view c.args.disk.now).seen) (file_of c.args.file (g.D.Disk.view c.write_entries.new.disk).seen) c.args.put.now.job c.args.put.now.bytes.now c.args.put.now.lost r0 c.write_entries.new.slots.rebuilt.items c.args.slots.now.parity.items c.deref.result.now (source_is c.args.file c.args.pieces.now.file (g.D.Disk.view c.args.disk.now) (g.D.Disk.view c.write_entries.new.disk) c.requires.apart one.others) (ap (λ (r : _). r.items) kept.0) (c.requires.sum tells) (last ∙ ap (λ (r : _). r.items) (again.1 ∙ kept.1)) in
    let same = c.write_piece.ensures.file ∙ (c.push.ensures.file ∙ (c.write_job_slots.ensures.file ∙ c.write_entries.ensures.file)) in
    let out = subst (λ (f : DiskFile). IsWritten f n (g.D.Disk.view c.write_piece.new.disk) whole) same (written_all c.write_piece.new.self n (g.D.Disk.view c.write_piece.new.disk) whole c.in_ok-write_piece.ensures.empty (c.in_ok-write_piece.ensures.answer t3 n _ all)) in
    subst (IsWritten c.args.pieces.now.file n (g.D.Disk.view c.write_piece.new.disk)) text_is out
