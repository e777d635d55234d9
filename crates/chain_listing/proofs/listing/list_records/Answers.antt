use Rattle.std.proofs.Common.{sym, subst, IsTrue}
use Rattle.std.proofs.lemmas.Result.{err_from_is_err_and}
use Rattle.chain_listing.proofs.StoreLaws.{opened_listed, opened_rests, some_count, unlisted_undamaged}
use Rattle.chain_listing.proofs.listing.list_records.Goals as goal

pub returns-clause-answer : goal.returns-clause-answer
returns-clause-answer g c = λ tells.
    let v = g.D.Disk.view c.open.new.disk in
    let chain = c.in-Some.chain in
    let found = c.in_ok-open.field-0 in
    let now = subst IsTrue (sym c.open.ensures.steady.tells) tells in
    opened_listed found chain c.open.new.kept (g.D.Disk.view c.args.disk.now).seen v c.in_ok-text-in-Some.text c.in-Some.is (some_count found chain c.in_ok-open.ensures.some c.in-Some.is) (c.in_ok-open.ensures.answer tells) (c.in_ok-text-in-Some.ensures.answer now)

pub returns-in_err-text-in-Some-clause-err : goal.returns-in_err-text-in-Some-clause-err
returns-in_err-text-in-Some-clause-err g c =
    let p = err_from_is_err_and c.from_residual-in_err-text-in-Some.result c.from_residual-in_err-text-in-Some.ensures.1 in
    rw (p.1, p.2) (λ tells.
    let v = g.D.Disk.view c.open.new.disk in
    let now = subst IsTrue (sym c.open.ensures.steady.tells) tells in
    let rests = opened_rests c.in_ok-open.field-0 c.in-Some.chain c.open.new.kept (g.D.Disk.view c.args.disk.now).seen v c.in-Some.is (c.in_ok-open.ensures.answer tells) in
    unlisted_undamaged _ (g.D.Disk.view c.args.disk.now).seen (c.in_err-text-in-Some.ensures.err now rests.0 rests.1))
