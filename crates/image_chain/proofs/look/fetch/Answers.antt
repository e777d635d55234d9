use Rattle.std.proofs.Common.{◌∙◌, ap, sym, subst, take, drop, IsTrue}
use Rattle.disk_model.specs.Store.{Store, file_of}
use Rattle.image_chain.proofs.LookLaws.{same_read}
use Rattle.image_chain.proofs.look.fetch.Goals as goal

pub returns-then-is_record-clause-answer : goal.returns-then-is_record-clause-answer
returns-then-is_record-clause-answer g c = λ tells.
    let looked = c.claimed_length.ensures.looked in
    let mid = subst IsTrue (sym looked.tells) tells in
    let same = c.in_ok-n.ensures.answer mid ∙ ap (λ (s : Store). take c.in_ok-claimed.claimed (drop c.args.at (file_of c.args.file s))) (looked.seen tells) in
    same_read c.fill.new.self _ c.in_ok-n.n c.in_ok-claimed.claimed 3145837 c.in_ok-claimed.ensures.bound same (c.is_record.ensures.answer c.if-is_record.true)
