use Rattle.std.proofs.Common.{◌∙◌, arith, ap, sym, subst, length, IsTrue}
use Rattle.disk_model.specs.Store.{Store, file_of}
use Rattle.disk_model.specs.View.{Takes}
use Rattle.parity_store.specs.Layout.{pool_header_at}
use Rattle.parity_store.proofs.HeaderLaws.{header_none, header_short, header_good, header_bad, front_read}
use Rattle.parity_store.proofs.look.header_of.Goals as goal

pub returns-then-length-eq0-clause-answer : goal.returns-then-length-eq0-clause-answer
returns-then-length-eq0-clause-answer g c = λ tells. header_none c.args.file _ (sym (c.in_ok-length.ensures.answer tells) ∙ c.if-length-eq0.true)

pub returns-then-length-lt16-clause-answer : goal.returns-then-length-lt16-clause-answer
returns-then-length-lt16-clause-answer g c = λ tells. let n = c.in_ok-length.ensures.answer tells in header_short c.args.file _ (omega arith) (omega arith)

pub returns-in-Ok-clause-answer : goal.returns-in-Ok-clause-answer
returns-in-Ok-clause-answer g c = λ tells.
    let n = c.in_ok-length.ensures.answer tells in
    let looked = c.in_ok-length.ensures.same in
    let mid = subst IsTrue (sym looked.tells) tells in
    let file = file_of c.args.file (g.D.Disk.view c.args.disk.now).seen in
    let takes = subst (λ (s : Store). Takes 0 (file_of c.args.file s) c.as_mut_slice.result.now c.in_ok-read_at.field-0 c.read_at.new.buf) (looked.seen tells) (c.in_ok-read_at.ensures.answer.1 mid) in
    let front = front_read file c.as_mut_slice.result.now c.read_at.new.buf c.in_ok-read_at.field-0 (ap length c.as_mut_slice.ensures.value) (omega arith) (omega arith) takes in
    header_good c.args.file file c.in-Ok.header (omega arith) (ap pool_header_at (sym front) ∙ c.in-Ok.ensures.exact)

pub returns-in-Err-clause-answer : goal.returns-in-Err-clause-answer
returns-in-Err-clause-answer g c = λ tells.
    let n = c.in_ok-length.ensures.answer tells in
    let looked = c.in_ok-length.ensures.same in
    let mid = subst IsTrue (sym looked.tells) tells in
    let file = file_of c.args.file (g.D.Disk.view c.args.disk.now).seen in
    let takes = subst (λ (s : Store). Takes 0 (file_of c.args.file s) c.as_mut_slice.result.now c.in_ok-read_at.field-0 c.read_at.new.buf) (looked.seen tells) (c.in_ok-read_at.ensures.answer.1 mid) in
    let front = front_read file c.as_mut_slice.result.now c.read_at.new.buf c.in_ok-read_at.field-0 (ap length c.as_mut_slice.ensures.value) (omega arith) (omega arith) takes in
    header_bad c.args.file file c.in-Err.bad.place (omega arith) (ap pool_header_at (sym front) ∙ c.in-Err.ensures.exact)
