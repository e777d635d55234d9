use Rattle.std.proofs.Common.{◌≡◌, ◌∙◌, ap, sym, subst, Option, Ok, IsTrue}
use Rattle.std.proofs.lemmas.Result.{err_from_is_err_and}
use Rattle.disk_model.specs.declared.disk_file.DiskFile.{DiskFile}
use Rattle.disk_model.specs.Store.{Store, file_of}
use Rattle.parity_store.specs.declared.header.PoolHeader.{PoolHeader}
use Rattle.parity_store.specs.Pools.{pool_text_in, IsPoolDamage}
use Rattle.parity_store.proofs.StoreLaws.{current_damage, text_damage, text_good, pool_is, current_of}
use Rattle.parity_store.proofs.open.read_store.Goals as goal

pub returns-in_err-found-clause-err : goal.returns-in_err-found-clause-err
returns-in_err-found-clause-err g c =
    let p = err_from_is_err_and c.from_residual.result c.from_residual.ensures.1 in
    rw (p.1, p.2) (λ tells. current_damage (g.D.Disk.view c.args.disk.now).seen _ (c.in_err-found.ensures.err tells))

pub returns-in-None-clause-answer : goal.returns-in-None-clause-answer
returns-in-None-clause-answer g c = λ tells.
    pool_is (g.D.Disk.view c.args.disk.now).seen _ (c.in_ok-found.ensures.answer tells ∙ ap (λ (x : Option (DiskFile × PoolHeader)). Ok x) c.in-None.is)

pub returns-in_err-check_text-clause-err : goal.returns-in_err-check_text-clause-err
returns-in_err-check_text-clause-err g c =
    let p = err_from_is_err_and c.from_residual-in_err-check_text.result c.from_residual-in_err-check_text.ensures.1 in
    rw (p.1, p.2) (λ tells.
    let s = (g.D.Disk.view c.args.disk.now).seen in
    let l1 = c.read_current.ensures.looked in
    let mid = subst IsTrue (sym l1.tells) tells in
    let is = c.in_ok-found.ensures.answer tells ∙ ap (λ (x : Option (DiskFile × PoolHeader)). Ok x) c.in-Some.is in
    let f = c.in-Some.found.0 in let h = c.in-Some.found.1 in
    text_damage s c.in-Some.found c.in_err-check_text.field-0.0 is (subst (λ (x : Store). IsPoolDamage c.in_err-check_text.field-0.0 (pool_text_in f h (file_of f x))) (l1.seen tells) (c.in_err-check_text.ensures.err mid)))

pub returns-clause-answer : goal.returns-clause-answer
returns-clause-answer g c = λ tells.
    let s = (g.D.Disk.view c.args.disk.now).seen in
    let l1 = c.read_current.ensures.looked in
    let mid = subst IsTrue (sym l1.tells) tells in
    let is = c.in_ok-found.ensures.answer tells ∙ ap (λ (x : Option (DiskFile × PoolHeader)). Ok x) c.in-Some.is in
    let f = c.in-Some.found.0 in let h = c.in-Some.found.1 in
    let text = subst (λ (x : Store). pool_text_in f h (file_of f x) ≡ Ok tt) (l1.seen tells) (c.in_ok-check_text.ensures.answer mid) in
    let current = current_of s c.in-Some.found is in
    (text_good s c.in-Some.found is text, record { image_file = current.image_file; gate = current.opened; header = current.header; text = text; aside = current.aside })
