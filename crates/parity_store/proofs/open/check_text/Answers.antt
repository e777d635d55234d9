use Rattle.std.proofs.Common.{◌≡◌, ◌∙◌, ℕ, min, length, ap, sym, subst, IsTrue}
use Rattle.std.proofs.lemmas.Result.{err_from_is_err_and}
use Rattle.disk_model.specs.Store.{Store, file_of}
use Rattle.parity_store.specs.Pools.{lengths_from}
use Rattle.std.specs.Prelude.{Ok}
use Rattle.parity_store.proofs.LengthLaws.{text_short, text_long, text_damaged}
use Rattle.parity_store.proofs.open.check_text.Goals as goal

pub returns-then-length-whole-clause-err : goal.returns-then-length-whole-clause-err
returns-then-length-whole-clause-err g c = λ tells.
    let file = file_of c.args.file (g.D.Disk.view c.args.disk.now).seen in
    let n = c.in_ok-length.ensures.answer tells in
    let w = c.whole_length-whole.ensures in
    text_short c.args.file c.args.h.now file c.min-place.result (λ e. c.if-length-whole.true (n ∙ e ∙ sym w))
    (c.min-place.ensures ∙ ap (λ (m : ℕ). min m c.whole_length-whole.result) n ∙ ap (λ (m : ℕ). min (length file) m) w)

pub returns-in_err-check_lengths-clause-err : goal.returns-in_err-check_lengths-clause-err
returns-in_err-check_lengths-clause-err g c =
    let p = err_from_is_err_and c.from_residual-in_err-check_lengths.result c.from_residual-in_err-check_lengths.ensures.1 in
    rw (p.1, p.2) (λ tells.
    let looked = c.in_ok-length.ensures.same in
    let mid = subst IsTrue (sym looked.tells) tells in
    let n = c.in_ok-length.ensures.answer tells in
    text_damaged c.args.file c.args.h.now (g.D.Disk.view c.args.disk.now).seen _ _ (looked.seen tells) (sym n ∙ c.if-length-whole.false ∙ c.whole_length-whole.ensures) (c.in_err-check_lengths.ensures.err mid))

pub returns-clause-answer : goal.returns-clause-answer
returns-clause-answer g c = λ tells.
    let file = file_of c.args.file (g.D.Disk.view c.args.disk.now).seen in
    let looked = c.in_ok-length.ensures.same in
    let mid = subst IsTrue (sym looked.tells) tells in
    let n = c.in_ok-length.ensures.answer tells in
    text_long c.args.file c.args.h.now file (sym n ∙ c.if-length-whole.false ∙ c.whole_length-whole.ensures)
    ∙ subst (λ (s : Store). lengths_from c.args.h.now.jobs c.args.file c.args.h.now (file_of c.args.file s) 0 ≡ Ok tt) (looked.seen tells) (c.in_ok-check_lengths.ensures.answer mid)
