use Rattle.std.proofs.Common.{◌≡◌, ◌∙◌, ap, sym, subst, Option, None, Some, Ok, [], IsTrue}
use Rattle.std.proofs.lemmas.Result.{err_from_is_err_and}
use Rattle.disk_model.specs.declared.disk_file.DiskFile.{DiskFile}
use Rattle.disk_model.specs.Store.{Store, file_of}
use Rattle.image_format.specs.declared.header.Header.{Header}
use Rattle.image_chain.specs.Looking.{IsDamage}
use Rattle.image_chain.specs.Lists.{found_of}
use Rattle.image_chain.specs.Records.{found_in}
use Rattle.image_chain.specs.Walk.{IsRead}
use Rattle.image_chain.proofs.OpenLaws.{one_damage, two_damage, both_damage, found_damage, second_is, second_damage, current_of, read_from, found_named}
use Rattle.image_chain.proofs.ListLaws.{current_is}
use Rattle.image_chain.proofs.open.read_store.Goals as goal

pub returns-in_err-one-clause-err : goal.returns-in_err-one-clause-err
returns-in_err-one-clause-err g c =
    let p = err_from_is_err_and c.from_residual.result c.from_residual.ensures.1 in
    rw (p.1, p.2) (λ tells. one_damage (g.D.Disk.view c.args.disk.now).seen _ (c.in_err-one.ensures.answer tells))

pub returns-in_err-two-clause-err : goal.returns-in_err-two-clause-err
returns-in_err-two-clause-err g c =
    let p = err_from_is_err_and c.from_residual-in_err-two.result c.from_residual-in_err-two.ensures.1 in
    rw (p.1, p.2) (λ tells.
    let s = (g.D.Disk.view c.args.disk.now).seen in
    let l1 = c.header_of.ensures.looked in
    let mid = subst IsTrue (sym l1.tells) tells in
    let first = c.in_ok-one.ensures.answer tells in
    two_damage s c.in_ok-one.one _ first (second_damage s _ _ (l1.seen tells) (c.in_err-two.ensures.answer mid)))

pub returns-in_err-found-clause-err : goal.returns-in_err-found-clause-err
returns-in_err-found-clause-err g c =
    let p = err_from_is_err_and c.from_residual-in_err-found.result c.from_residual-in_err-found.ensures.1 in
    rw (p.1, p.2) (λ tells.
    let s = (g.D.Disk.view c.args.disk.now).seen in
    let l1 = c.header_of.ensures.looked in
    let mid = subst IsTrue (sym l1.tells) tells in
    let first = c.in_ok-one.ensures.answer tells in
    let l2 = c.header_of-2.ensures.looked in
    let end = subst IsTrue (sym l2.tells) mid in
    let same = l2.seen mid ∙ l1.seen tells in
    let second = second_is s _ c.in_ok-two.two (l1.seen tells) (c.in_ok-two.ensures.answer mid) in
    both_damage s c.in_ok-one.one c.in_ok-two.two _ first second c.in_err-found.ensures.answer)

pub returns-in-None-clause-answer : goal.returns-in-None-clause-answer
returns-in-None-clause-answer g c = λ tells.
    let s = (g.D.Disk.view c.args.disk.now).seen in
    let l1 = c.header_of.ensures.looked in
    let mid = subst IsTrue (sym l1.tells) tells in
    let first = c.in_ok-one.ensures.answer tells in
    let l2 = c.header_of-2.ensures.looked in
    let end = subst IsTrue (sym l2.tells) mid in
    let same = l2.seen mid ∙ l1.seen tells in
    let second = second_is s _ c.in_ok-two.two (l1.seen tells) (c.in_ok-two.ensures.answer mid) in
    let none = c.in_ok-found.ensures.answer ∙ ap (λ (x : Option (DiskFile × Header)). Ok x) c.in-None.is in
    ([], current_is s c.in_ok-one.one c.in_ok-two.two None first second none, tt)

pub returns-in_err-chain-clause-err : goal.returns-in_err-chain-clause-err
returns-in_err-chain-clause-err g c =
    let p = err_from_is_err_and c.from_residual-in_err-chain.result c.from_residual-in_err-chain.ensures.1 in
    rw (p.1, p.2) (λ tells.
    let s = (g.D.Disk.view c.args.disk.now).seen in
    let l1 = c.header_of.ensures.looked in
    let mid = subst IsTrue (sym l1.tells) tells in
    let first = c.in_ok-one.ensures.answer tells in
    let l2 = c.header_of-2.ensures.looked in
    let end = subst IsTrue (sym l2.tells) mid in
    let same = l2.seen mid ∙ l1.seen tells in
    let second = second_is s _ c.in_ok-two.two (l1.seen tells) (c.in_ok-two.ensures.answer mid) in
    let some = c.in_ok-found.ensures.answer ∙ ap (λ (x : Option (DiskFile × Header)). Ok x) c.in-Some.is in
    found_damage s c.in_ok-one.one c.in_ok-two.two c.in-Some.found _ first second some (subst (λ (x : Store). IsDamage c.in_err-chain.field-0.0 (found_in x (Some c.in-Some.found))) same (c.in_err-chain.ensures.err end)))

pub returns-clause-answer : goal.returns-clause-answer
returns-clause-answer g c = λ tells.
    let s = (g.D.Disk.view c.args.disk.now).seen in
    let l1 = c.header_of.ensures.looked in
    let mid = subst IsTrue (sym l1.tells) tells in
    let first = c.in_ok-one.ensures.answer tells in
    let l2 = c.header_of-2.ensures.looked in
    let end = subst IsTrue (sym l2.tells) mid in
    let same = l2.seen mid ∙ l1.seen tells in
    let second = second_is s _ c.in_ok-two.two (l1.seen tells) (c.in_ok-two.ensures.answer mid) in
    let some = c.in_ok-found.ensures.answer ∙ ap (λ (x : Option (DiskFile × Header)). Ok x) c.in-Some.is in
    let chain = c.in_ok-chain.chain in
    let f = c.in-Some.found.0 in
    let kept = c.in_ok-chain.ensures.same in
    let a = c.in_ok-chain.ensures.answer end in
    let found = subst (λ (x : Store). found_in x (Some c.in-Some.found) ≡ Ok (found_of f c.in-Some.found.1 a.0)) same a.2 in
    let read = subst (λ (x : Store). IsRead chain.current c.read_chain.new.kept a.0 (file_of f x)) same a.1 in
    let all = current_is s c.in_ok-one.one c.in_ok-two.two (Some c.in-Some.found) first second some ∙ found in (
      a.0,
      found_named s chain.current.file f _ c.in-Some.found.1 a.0 kept.0 kept.1 all,
      read_from chain c.read_chain.new.kept a.0 s c.in_ok-one.one c.in_ok-two.two c.in-Some.found (current_of c.in_ok-one.one c.in_ok-two.two s.one s.two c.in-Some.found first second some) kept.0 kept.1 kept.2 read,
    )
