use Rattle.std.proofs.Common.{◌∙◌, ap, sym, subst, length, IsTrue}
use Rattle.disk_model.specs.declared.disk_file.DiskFile.{DiskFile}
use Rattle.disk_model.specs.Store.{Store, file_of}
use Rattle.parity_store.specs.Pools.{other, IsAside}
use Rattle.parity_store.specs.OnDisk.{next_header}
use Rattle.parity_store.specs.Writing.{IsOut, IsWritten, Wrote, Puts, OnlyFile, put_text}
use Rattle.parity_store.proofs.PutLaws.{same_put_text, same_put_parity}
use Rattle.parity_store.proofs.StandsLaws.{next_held, other_image, other_apart}
use Rattle.parity_store.proofs.WritingLaws.{only_twice, looked_only, source_is, puts_none, puts_started, puts_wrote, puts_opened, puts_after}
use Rattle.parity_store.proofs.MomentLaws.{untouched_file}
use Rattle.parity_store.proofs.rewrite.write_next.Goals as goal

pub returns-in_err-sum_slots-clause-any_moment : goal.returns-in_err-sum_slots-clause-any_moment
returns-in_err-sum_slots-clause-any_moment g c = λ tells gen aside.
    puts_none (other c.args.file) (next_header c.args.h.now) gen (put_text c.args.h.now (file_of c.args.file (g.D.Disk.view c.args.disk.now).seen) c.args.put.now.job c.args.put.now.bytes.now c.args.put.now.lost c.args.slots.now.rebuilt.items) (g.D.Disk.view c.args.disk.now) (g.D.Disk.view c.sum_slots.new.disk) tells (g.met.D.Disk.lawful c.args.disk.now tells) aside c.sum_slots.ensures.looked

pub returns-in_err-pieces-clause-any_moment : goal.returns-in_err-pieces-clause-any_moment
returns-in_err-pieces-clause-any_moment g c = λ tells gen aside.
    let to = c.beside-to.result in
    let n = next_header c.args.h.now in
    let looked = c.sum_slots.ensures.looked in
    let t1 = subst IsTrue (sym looked.tells) tells in
    let held = next_held c.args.h.now c.requires.held c.requires.free in
    let text = put_text c.args.h.now (file_of c.args.file (g.D.Disk.view c.args.disk.now).seen) c.args.put.now.job c.args.put.now.bytes.now c.args.put.now.lost c.args.slots.now.rebuilt.items in
    let aside_to = subst (λ (f : DiskFile). (s : Store) → (g.D.Disk.view c.args.disk.now).may_leave s → IsAside f gen (file_of f s)) (sym c.beside-to.ensures) aside in
    let none = puts_none to n gen text (g.D.Disk.view c.args.disk.now) (g.D.Disk.view c.sum_slots.new.disk) tells (g.met.D.Disk.lawful c.args.disk.now tells) aside_to looked in
    let begun = puts_after to n gen text (g.D.Disk.view c.args.disk.now) (g.D.Disk.view c.sum_slots.new.disk) (g.D.Disk.view c.start.new.disk) tells none (puts_started to n gen text (g.D.Disk.view c.sum_slots.new.disk) (g.D.Disk.view c.start.new.disk) (c.start.ensures.any_moment t1 gen (λ s left. aside_to s ((looked.crash tells s).0 left)))) in
    subst (λ (f : DiskFile). Puts f n gen text (g.D.Disk.view c.args.disk.now) (g.D.Disk.view c.start.new.disk)) c.beside-to.ensures begun

pub returns-in_err-write_text-clause-any_moment : goal.returns-in_err-write_text-clause-any_moment
returns-in_err-write_text-clause-any_moment g c = λ tells gen aside.
    let to = c.beside-to.result in
    let n = next_header c.args.h.now in
    let looked = c.sum_slots.ensures.looked in
    let t1 = subst IsTrue (sym looked.tells) tells in
    let held = next_held c.args.h.now c.requires.held c.requires.free in
    let text = put_text c.args.h.now (file_of c.args.file (g.D.Disk.view c.args.disk.now).seen) c.args.put.now.job c.args.put.now.bytes.now c.args.put.now.lost c.args.slots.now.rebuilt.items in
    let aside_to = subst (λ (f : DiskFile). (s : Store) → (g.D.Disk.view c.args.disk.now).may_leave s → IsAside f gen (file_of f s)) (sym c.beside-to.ensures) aside in
    let none = puts_none to n gen text (g.D.Disk.view c.args.disk.now) (g.D.Disk.view c.sum_slots.new.disk) tells (g.met.D.Disk.lawful c.args.disk.now tells) aside_to looked in
    let begun = puts_after to n gen text (g.D.Disk.view c.args.disk.now) (g.D.Disk.view c.sum_slots.new.disk) (g.D.Disk.view c.start.new.disk) tells none (puts_started to n gen text (g.D.Disk.view c.sum_slots.new.disk) (g.D.Disk.view c.start.new.disk) (c.start.ensures.any_moment t1 gen (λ s left. aside_to s ((looked.crash tells s).0 left)))) in
    let t2 = subst IsTrue (sym c.start.ensures.steady.tells) t1 in
    let same = c.in_ok-pieces.ensures.same.0 in
    let writing = c.in_ok-pieces.ensures.answer t1 in
    let wrote = subst (λ (f : DiskFile). Wrote f n (g.D.Disk.view c.start.new.disk) (g.D.Disk.view c.write_text.new.disk)) same (c.write_text.ensures.wrote t2 n writing) in
    let second = puts_wrote to n gen text (g.D.Disk.view c.args.disk.now) (g.D.Disk.view c.start.new.disk) (g.D.Disk.view c.write_text.new.disk) tells held begun wrote in
    subst (λ (f : DiskFile). Puts f n gen text (g.D.Disk.view c.args.disk.now) (g.D.Disk.view c.write_text.new.disk)) c.beside-to.ensures second

pub returns-in_err-open_gate-clause-any_moment : goal.returns-in_err-open_gate-clause-any_moment
returns-in_err-open_gate-clause-any_moment g c = λ tells gen aside.
    let to = c.beside-to.result in
    let n = next_header c.args.h.now in
    let looked = c.sum_slots.ensures.looked in
    let t1 = subst IsTrue (sym looked.tells) tells in
    let held = next_held c.args.h.now c.requires.held c.requires.free in
    let text = put_text c.args.h.now (file_of c.args.file (g.D.Disk.view c.args.disk.now).seen) c.args.put.now.job c.args.put.now.bytes.now c.args.put.now.lost c.args.slots.now.rebuilt.items in
    let aside_to = subst (λ (f : DiskFile). (s : Store) → (g.D.Disk.view c.args.disk.now).may_leave s → IsAside f gen (file_of f s)) (sym c.beside-to.ensures) aside in
    let none = puts_none to n gen text (g.D.Disk.view c.args.disk.now) (g.D.Disk.view c.sum_slots.new.disk) tells (g.met.D.Disk.lawful c.args.disk.now tells) aside_to looked in
    let begun = puts_after to n gen text (g.D.Disk.view c.args.disk.now) (g.D.Disk.view c.sum_slots.new.disk) (g.D.Disk.view c.start.new.disk) tells none (puts_started to n gen text (g.D.Disk.view c.sum_slots.new.disk) (g.D.Disk.view c.start.new.disk) (c.start.ensures.any_moment t1 gen (λ s left. aside_to s ((looked.crash tells s).0 left)))) in
    let t2 = subst IsTrue (sym c.start.ensures.steady.tells) t1 in
    let same = c.in_ok-pieces.ensures.same.0 in
    let writing = c.in_ok-pieces.ensures.answer t1 in
    let wrote = subst (λ (f : DiskFile). Wrote f n (g.D.Disk.view c.start.new.disk) (g.D.Disk.view c.write_text.new.disk)) same (c.write_text.ensures.wrote t2 n writing) in
    let second = puts_wrote to n gen text (g.D.Disk.view c.args.disk.now) (g.D.Disk.view c.start.new.disk) (g.D.Disk.view c.write_text.new.disk) tells held begun wrote in
    let t3 = subst IsTrue (sym c.write_text.ensures.steady.tells) t2 in
    let text_is = same_put_text c.args.h.now (file_of c.args.file (g.D.Disk.view c.args.disk.now).seen) (file_of c.args.file (g.D.Disk.view c.start.new.disk).seen) c.args.put.now.job c.args.put.now.bytes.now c.args.put.now.lost c.args.slots.now.rebuilt.items c.sum_slots.new.slots.rebuilt.items (source_is c.args.file to (g.D.Disk.view c.sum_slots.new.disk) (g.D.Disk.view c.start.new.disk) (λ e. other_apart c.args.file c.requires.image (e ∙ c.beside-to.ensures)) (c.start.ensures.others t1) ∙ ap (file_of c.args.file) (looked.seen tells)) (ap (λ (r : _). r.items) c.sum_slots.ensures.kept) in
    let text1 = put_text c.args.h.now (file_of c.args.file (g.D.Disk.view c.start.new.disk).seen) c.args.put.now.job c.args.put.now.bytes.now c.args.put.now.lost c.sum_slots.new.slots.rebuilt.items in
    let written = subst (IsWritten to n (g.D.Disk.view c.write_text.new.disk)) text_is (subst (λ (f : DiskFile). IsWritten f n (g.D.Disk.view c.write_text.new.disk) text1) same (c.in_ok-write_text.ensures.answer t2 n writing)) in
    let third = puts_opened to n gen text (g.D.Disk.view c.args.disk.now) (g.D.Disk.view c.write_text.new.disk) (g.D.Disk.view c.open_gate.new.disk) tells held second (c.open_gate.ensures.any_moment t3 n text written) in
    subst (λ (f : DiskFile). Puts f n gen text (g.D.Disk.view c.args.disk.now) (g.D.Disk.view c.open_gate.new.disk)) c.beside-to.ensures third

pub returns-clause-any_moment : goal.returns-clause-any_moment
returns-clause-any_moment g c = λ tells gen aside.
    let to = c.beside-to.result in
    let n = next_header c.args.h.now in
    let looked = c.sum_slots.ensures.looked in
    let t1 = subst IsTrue (sym looked.tells) tells in
    let held = next_held c.args.h.now c.requires.held c.requires.free in
    let text = put_text c.args.h.now (file_of c.args.file (g.D.Disk.view c.args.disk.now).seen) c.args.put.now.job c.args.put.now.bytes.now c.args.put.now.lost c.args.slots.now.rebuilt.items in
    let aside_to = subst (λ (f : DiskFile). (s : Store) → (g.D.Disk.view c.args.disk.now).may_leave s → IsAside f gen (file_of f s)) (sym c.beside-to.ensures) aside in
    let none = puts_none to n gen text (g.D.Disk.view c.args.disk.now) (g.D.Disk.view c.sum_slots.new.disk) tells (g.met.D.Disk.lawful c.args.disk.now tells) aside_to looked in
    let begun = puts_after to n gen text (g.D.Disk.view c.args.disk.now) (g.D.Disk.view c.sum_slots.new.disk) (g.D.Disk.view c.start.new.disk) tells none (puts_started to n gen text (g.D.Disk.view c.sum_slots.new.disk) (g.D.Disk.view c.start.new.disk) (c.start.ensures.any_moment t1 gen (λ s left. aside_to s ((looked.crash tells s).0 left)))) in
    let t2 = subst IsTrue (sym c.start.ensures.steady.tells) t1 in
    let same = c.in_ok-pieces.ensures.same.0 in
    let writing = c.in_ok-pieces.ensures.answer t1 in
    let wrote = subst (λ (f : DiskFile). Wrote f n (g.D.Disk.view c.start.new.disk) (g.D.Disk.view c.write_text.new.disk)) same (c.write_text.ensures.wrote t2 n writing) in
    let second = puts_wrote to n gen text (g.D.Disk.view c.args.disk.now) (g.D.Disk.view c.start.new.disk) (g.D.Disk.view c.write_text.new.disk) tells held begun wrote in
    let t3 = subst IsTrue (sym c.write_text.ensures.steady.tells) t2 in
    let text_is = same_put_text c.args.h.now (file_of c.args.file (g.D.Disk.view c.args.disk.now).seen) (file_of c.args.file (g.D.Disk.view c.start.new.disk).seen) c.args.put.now.job c.args.put.now.bytes.now c.args.put.now.lost c.args.slots.now.rebuilt.items c.sum_slots.new.slots.rebuilt.items (source_is c.args.file to (g.D.Disk.view c.sum_slots.new.disk) (g.D.Disk.view c.start.new.disk) (λ e. other_apart c.args.file c.requires.image (e ∙ c.beside-to.ensures)) (c.start.ensures.others t1) ∙ ap (file_of c.args.file) (looked.seen tells)) (ap (λ (r : _). r.items) c.sum_slots.ensures.kept) in
    let text1 = put_text c.args.h.now (file_of c.args.file (g.D.Disk.view c.start.new.disk).seen) c.args.put.now.job c.args.put.now.bytes.now c.args.put.now.lost c.sum_slots.new.slots.rebuilt.items in
    let written = subst (IsWritten to n (g.D.Disk.view c.write_text.new.disk)) text_is (subst (λ (f : DiskFile). IsWritten f n (g.D.Disk.view c.write_text.new.disk) text1) same (c.in_ok-write_text.ensures.answer t2 n writing)) in
    let third = puts_opened to n gen text (g.D.Disk.view c.args.disk.now) (g.D.Disk.view c.write_text.new.disk) (g.D.Disk.view c.open_gate.new.disk) tells held second (c.open_gate.ensures.any_moment t3 n text written) in
    subst (λ (f : DiskFile). Puts f n gen text (g.D.Disk.view c.args.disk.now) (g.D.Disk.view c.open_gate.new.disk)) c.beside-to.ensures third

pub returns-clause-answer : goal.returns-clause-answer
returns-clause-answer g c = λ tells.
    let to = c.beside-to.result in
    let n = next_header c.args.h.now in
    let looked = c.sum_slots.ensures.looked in
    let t1 = subst IsTrue (sym looked.tells) tells in
    let held = next_held c.args.h.now c.requires.held c.requires.free in
    let text = put_text c.args.h.now (file_of c.args.file (g.D.Disk.view c.args.disk.now).seen) c.args.put.now.job c.args.put.now.bytes.now c.args.put.now.lost c.args.slots.now.rebuilt.items in
    let t2 = subst IsTrue (sym c.start.ensures.steady.tells) t1 in
    let same = c.in_ok-pieces.ensures.same.0 in
    let writing = c.in_ok-pieces.ensures.answer t1 in
    let wrote = subst (λ (f : DiskFile). Wrote f n (g.D.Disk.view c.start.new.disk) (g.D.Disk.view c.write_text.new.disk)) same (c.write_text.ensures.wrote t2 n writing) in
    let t3 = subst IsTrue (sym c.write_text.ensures.steady.tells) t2 in
    let text_is = same_put_text c.args.h.now (file_of c.args.file (g.D.Disk.view c.args.disk.now).seen) (file_of c.args.file (g.D.Disk.view c.start.new.disk).seen) c.args.put.now.job c.args.put.now.bytes.now c.args.put.now.lost c.args.slots.now.rebuilt.items c.sum_slots.new.slots.rebuilt.items (source_is c.args.file to (g.D.Disk.view c.sum_slots.new.disk) (g.D.Disk.view c.start.new.disk) (λ e. other_apart c.args.file c.requires.image (e ∙ c.beside-to.ensures)) (c.start.ensures.others t1) ∙ ap (file_of c.args.file) (looked.seen tells)) (ap (λ (r : _). r.items) c.sum_slots.ensures.kept) in
    let text1 = put_text c.args.h.now (file_of c.args.file (g.D.Disk.view c.start.new.disk).seen) c.args.put.now.job c.args.put.now.bytes.now c.args.put.now.lost c.sum_slots.new.slots.rebuilt.items in
    let written = subst (IsWritten to n (g.D.Disk.view c.write_text.new.disk)) text_is (subst (λ (f : DiskFile). IsWritten f n (g.D.Disk.view c.write_text.new.disk) text1) same (c.in_ok-write_text.ensures.answer t2 n writing)) in
    subst (λ (f : DiskFile). IsOut f n (g.D.Disk.view c.open_gate.new.disk) text) c.beside-to.ensures (c.in_ok-open_gate.ensures.answer t3 n text written)

pub returns-in_err-sum_slots-clause-others : goal.returns-in_err-sum_slots-clause-others
returns-in_err-sum_slots-clause-others g c = λ tells. λ f apart. untouched_file f (g.D.Disk.view c.args.disk.now) (g.D.Disk.view c.sum_slots.new.disk) tells c.sum_slots.ensures.looked

pub returns-in_err-pieces-clause-others : goal.returns-in_err-pieces-clause-others
returns-in_err-pieces-clause-others g c = λ tells.
    let to = c.beside-to.result in
    let n = next_header c.args.h.now in
    let looked = c.sum_slots.ensures.looked in
    let t1 = subst IsTrue (sym looked.tells) tells in
    let one = looked_only to (g.D.Disk.view c.args.disk.now) (g.D.Disk.view c.sum_slots.new.disk) (g.D.Disk.view c.start.new.disk) tells looked (c.start.ensures.others t1) in
    subst (λ (f : DiskFile). OnlyFile f (g.D.Disk.view c.args.disk.now) (g.D.Disk.view c.start.new.disk)) c.beside-to.ensures one

pub returns-in_err-write_text-clause-others : goal.returns-in_err-write_text-clause-others
returns-in_err-write_text-clause-others g c = λ tells.
    let to = c.beside-to.result in
    let n = next_header c.args.h.now in
    let looked = c.sum_slots.ensures.looked in
    let t1 = subst IsTrue (sym looked.tells) tells in
    let one = looked_only to (g.D.Disk.view c.args.disk.now) (g.D.Disk.view c.sum_slots.new.disk) (g.D.Disk.view c.start.new.disk) tells looked (c.start.ensures.others t1) in
    let t2 = subst IsTrue (sym c.start.ensures.steady.tells) t1 in
    let same = c.in_ok-pieces.ensures.same.0 in
    let writing = c.in_ok-pieces.ensures.answer t1 in
    let wrote = subst (λ (f : DiskFile). Wrote f n (g.D.Disk.view c.start.new.disk) (g.D.Disk.view c.write_text.new.disk)) same (c.write_text.ensures.wrote t2 n writing) in
    let two = only_twice to (g.D.Disk.view c.args.disk.now) (g.D.Disk.view c.start.new.disk) (g.D.Disk.view c.write_text.new.disk) one wrote.others in
    subst (λ (f : DiskFile). OnlyFile f (g.D.Disk.view c.args.disk.now) (g.D.Disk.view c.write_text.new.disk)) c.beside-to.ensures two

pub returns-in_err-open_gate-clause-others : goal.returns-in_err-open_gate-clause-others
returns-in_err-open_gate-clause-others g c = λ tells.
    let to = c.beside-to.result in
    let n = next_header c.args.h.now in
    let looked = c.sum_slots.ensures.looked in
    let t1 = subst IsTrue (sym looked.tells) tells in
    let one = looked_only to (g.D.Disk.view c.args.disk.now) (g.D.Disk.view c.sum_slots.new.disk) (g.D.Disk.view c.start.new.disk) tells looked (c.start.ensures.others t1) in
    let t2 = subst IsTrue (sym c.start.ensures.steady.tells) t1 in
    let same = c.in_ok-pieces.ensures.same.0 in
    let writing = c.in_ok-pieces.ensures.answer t1 in
    let wrote = subst (λ (f : DiskFile). Wrote f n (g.D.Disk.view c.start.new.disk) (g.D.Disk.view c.write_text.new.disk)) same (c.write_text.ensures.wrote t2 n writing) in
    let two = only_twice to (g.D.Disk.view c.args.disk.now) (g.D.Disk.view c.start.new.disk) (g.D.Disk.view c.write_text.new.disk) one wrote.others in
    let t3 = subst IsTrue (sym c.write_text.ensures.steady.tells) t2 in
    let three = only_twice to (g.D.Disk.view c.args.disk.now) (g.D.Disk.view c.write_text.new.disk) (g.D.Disk.view c.open_gate.new.disk) two (c.open_gate.ensures.others t3) in
    subst (λ (f : DiskFile). OnlyFile f (g.D.Disk.view c.args.disk.now) (g.D.Disk.view c.open_gate.new.disk)) c.beside-to.ensures three

pub returns-clause-others : goal.returns-clause-others
returns-clause-others g c = λ tells.
    let to = c.beside-to.result in
    let n = next_header c.args.h.now in
    let looked = c.sum_slots.ensures.looked in
    let t1 = subst IsTrue (sym looked.tells) tells in
    let one = looked_only to (g.D.Disk.view c.args.disk.now) (g.D.Disk.view c.sum_slots.new.disk) (g.D.Disk.view c.start.new.disk) tells looked (c.start.ensures.others t1) in
    let t2 = subst IsTrue (sym c.start.ensures.steady.tells) t1 in
    let same = c.in_ok-pieces.ensures.same.0 in
    let writing = c.in_ok-pieces.ensures.answer t1 in
    let wrote = subst (λ (f : DiskFile). Wrote f n (g.D.Disk.view c.start.new.disk) (g.D.Disk.view c.write_text.new.disk)) same (c.write_text.ensures.wrote t2 n writing) in
    let two = only_twice to (g.D.Disk.view c.args.disk.now) (g.D.Disk.view c.start.new.disk) (g.D.Disk.view c.write_text.new.disk) one wrote.others in
    let t3 = subst IsTrue (sym c.write_text.ensures.steady.tells) t2 in
    let three = only_twice to (g.D.Disk.view c.args.disk.now) (g.D.Disk.view c.write_text.new.disk) (g.D.Disk.view c.open_gate.new.disk) two (c.open_gate.ensures.others t3) in
    subst (λ (f : DiskFile). OnlyFile f (g.D.Disk.view c.args.disk.now) (g.D.Disk.view c.open_gate.new.disk)) c.beside-to.ensures three

pub start-requires-clause-image : goal.start-requires-clause-image
start-requires-clause-image g c = λ e. other_image c.args.file (sym c.beside-to.ensures ∙ e)

pub write_text-requires-clause-apart : goal.write_text-requires-clause-apart
write_text-requires-clause-apart g c = λ e. other_apart c.args.file c.requires.image (e ∙ (c.in_ok-pieces.ensures.same.0 ∙ c.beside-to.ensures))

pub write_text-requires-clause-whole : goal.write_text-requires-clause-whole
write_text-requires-clause-whole g c = λ t2.
    let t1 = subst IsTrue c.start.ensures.steady.tells t2 in
    let looked = c.sum_slots.ensures.looked in
    let tells = subst IsTrue looked.tells t1 in
    let to = c.beside-to.result in
    let same = (source_is c.args.file to (g.D.Disk.view c.sum_slots.new.disk) (g.D.Disk.view c.start.new.disk) (λ e. other_apart c.args.file c.requires.image (e ∙ c.beside-to.ensures)) (c.start.ensures.others t1) ∙ ap (file_of c.args.file) (looked.seen tells)) in
    ap length same ∙ c.requires.whole tells

pub write_text-requires-clause-sum : goal.write_text-requires-clause-sum
write_text-requires-clause-sum g c = λ t2.
    let t1 = subst IsTrue c.start.ensures.steady.tells t2 in
    let looked = c.sum_slots.ensures.looked in
    let tells = subst IsTrue looked.tells t1 in
    let to = c.beside-to.result in
    let same = (source_is c.args.file to (g.D.Disk.view c.sum_slots.new.disk) (g.D.Disk.view c.start.new.disk) (λ e. other_apart c.args.file c.requires.image (e ∙ c.beside-to.ensures)) (c.start.ensures.others t1) ∙ ap (file_of c.args.file) (looked.seen tells)) in
    c.in_ok-sum_slots.ensures.answer tells ∙ same_put_parity c.args.h.now (file_of c.args.file (g.D.Disk.view c.args.disk.now).seen) (file_of c.args.file (g.D.Disk.view c.start.new.disk).seen) c.args.put.now.job c.args.put.now.bytes.now c.args.put.now.lost c.args.slots.now.rebuilt.items c.sum_slots.new.slots.rebuilt.items same (ap (λ (r : _). r.items) c.sum_slots.ensures.kept)

pub write_text-requires-clause-writing : goal.write_text-requires-clause-writing
write_text-requires-clause-writing g c = λ t2.
    let t1 = subst IsTrue c.start.ensures.steady.tells t2 in
    (next_header c.args.h.now, c.in_ok-pieces.ensures.answer t1)

pub open_gate-requires : goal.open_gate-requires
open_gate-requires g c = record {
  written = λ t3.
      let t2 = subst IsTrue c.write_text.ensures.steady.tells t3 in
      let t1 = subst IsTrue c.start.ensures.steady.tells t2 in
      let n = next_header c.args.h.now in
      let text1 = put_text c.args.h.now (file_of c.args.file (g.D.Disk.view c.start.new.disk).seen) c.args.put.now.job c.args.put.now.bytes.now c.args.put.now.lost c.sum_slots.new.slots.rebuilt.items in
      (n, (text1, subst (λ (f : DiskFile). IsWritten f n (g.D.Disk.view c.write_text.new.disk) text1) c.in_ok-pieces.ensures.same.0 (c.in_ok-write_text.ensures.answer t2 n (c.in_ok-pieces.ensures.answer t1))));
}
