use Rattle.std.proofs.Common.{◌≡◌, sym, subst, IsTrue}
use Rattle.disk_model.specs.Store.{Store, file_of}
use Rattle.parity_store.specs.Layout.{entry_in}
use Rattle.parity_store.proofs.SlotLaws.{matches_is}
use Rattle.parity_store.proofs.look.matches.Goals as goal

pub returns-clause-answer : goal.returns-clause-answer
returns-clause-answer g c = λ tells.
    let looked = c.read_slot.ensures.looked in
    let mid = subst IsTrue (sym looked.tells) tells in
    let file = file_of c.args.file (g.D.Disk.view c.args.disk.now).seen in
    let entry = subst (λ (s : Store). c.in_ok-entry.entry ≡ entry_in (file_of c.args.file s) c.args.i) (looked.seen tells) (c.in_ok-entry.ensures.answer mid) in
    matches_is c.args.h.now file c.read_slot.new.slot c.in_ok-entry.entry c.args.i (IsTrue c.has_digest-same.result) (c.in_ok-read_slot.ensures.answer tells) entry c.has_digest-same.ensures.answer
