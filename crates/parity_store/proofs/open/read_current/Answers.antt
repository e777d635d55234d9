use Rattle.std.proofs.Common.{◌∙◌, sym, subst, IsTrue}
use Rattle.std.proofs.lemmas.Result.{err_from_is_err_and}
use Rattle.parity_store.proofs.StoreLaws.{one_damage, two_damage, both_damage, second_is, second_damage, current_is}
use Rattle.parity_store.proofs.open.read_current.Goals as goal

pub returns-in_err-one-clause-err : goal.returns-in_err-one-clause-err
returns-in_err-one-clause-err g c =
    let p = err_from_is_err_and c.from_residual.result c.from_residual.ensures.1 in
    rw (p.1, p.2) (λ tells. one_damage (g.D.Disk.view c.args.disk.now).seen _ (c.in_err-one.ensures.answer tells))

pub returns-in_err-two-clause-err : goal.returns-in_err-two-clause-err
returns-in_err-two-clause-err g c =
    let p = err_from_is_err_and c.from_residual-in_err-two.result c.from_residual-in_err-two.ensures.1 in
    rw (p.1, p.2) (λ tells.
    let s = (g.D.Disk.view c.args.disk.now).seen in
    let l1 = c.header_of.ensures.looked in
    let mid = subst IsTrue (sym l1.tells) tells in
    let first = c.in_ok-one.ensures.answer tells in
    two_damage s c.in_ok-one.one _ first (second_damage s _ _ (l1.seen tells) (c.in_err-two.ensures.answer mid)))

pub returns-in_err-found-clause-err : goal.returns-in_err-found-clause-err
returns-in_err-found-clause-err g c =
    let p = err_from_is_err_and c.from_residual-in_err-found.result c.from_residual-in_err-found.ensures.1 in
    rw (p.1, p.2) (λ tells.
    let s = (g.D.Disk.view c.args.disk.now).seen in
    let l1 = c.header_of.ensures.looked in
    let mid = subst IsTrue (sym l1.tells) tells in
    let first = c.in_ok-one.ensures.answer tells in
    let second = second_is s _ c.in_ok-two.two (l1.seen tells) (c.in_ok-two.ensures.answer mid) in
    both_damage s c.in_ok-one.one c.in_ok-two.two _ first second c.in_err-found.ensures.answer)

pub returns-clause-answer : goal.returns-clause-answer
returns-clause-answer g c = λ tells.
    let s = (g.D.Disk.view c.args.disk.now).seen in
    let l1 = c.header_of.ensures.looked in
    let mid = subst IsTrue (sym l1.tells) tells in
    let first = c.in_ok-one.ensures.answer tells in
    let second = second_is s _ c.in_ok-two.two (l1.seen tells) (c.in_ok-two.ensures.answer mid) in
    current_is s c.in_ok-one.one c.in_ok-two.two first second ∙ c.in_ok-found.ensures.answer
