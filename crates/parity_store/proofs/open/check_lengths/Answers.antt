use Rattle.std.proofs.Common.{◌≡◌, ◌∙◌, ap, sym, subst, arith, IsTrue}
use Rattle.disk_model.specs.Store.{Store, file_of}
use Rattle.disk_model.proofs.Calls.{steady_twice}
use Rattle.disk_model.proofs.Keeping.{untouched_twice}
use Rattle.parity_store.specs.Layout.{entry_in}
use Rattle.parity_store.proofs.LengthLaws.{bad, length_bad, length_good}
use Rattle.parity_store.proofs.open.check_lengths.Goals as goal

pub returns-then-is_bad_length-clause-err : goal.returns-then-is_bad_length-clause-err
returns-then-is_bad_length-clause-err g c = λ tells.
    let looked = c.loop-i.invariant.looked in
    let mid = subst IsTrue (sym looked.tells) tells in
    let i = c.loop-i.i in
    let file = file_of c.args.file (g.D.Disk.view c.args.disk.now).seen in
    let entry = subst (λ (s : Store). c.in_ok-entry.entry ≡ entry_in (file_of c.args.file s) i) (looked.seen tells) (c.in_ok-entry.ensures.answer mid) in
    length_bad c.args.file c.args.h.now file i c.entry_length-length.result (c.entry_length-length.ensures file i entry) (let le = c.loop-i-test.true in omega (arith, le)) (sym c.is_bad_length.ensures ∙ c.if-is_bad_length.true) (c.loop-i.invariant.tested tells)
    ∙ ap (bad c.args.file) (sym c.entry_place-place.ensures)

pub loop-i-preserved : goal.loop-i-preserved
loop-i-preserved g c = record {
  within = (let le = c.loop-i-test.true in omega (arith, le));
  looked = untouched_twice _ _ _ c.loop-i.invariant.looked c.read_entry.ensures.looked;
  steady = steady_twice _ _ _ c.loop-i.invariant.steady c.read_entry.ensures.steady;
  counts = c.in_ok-entry.ensures.counts ∙ c.loop-i.invariant.counts;
  tested = λ tells.
      let looked = c.loop-i.invariant.looked in
      let mid = subst IsTrue (sym looked.tells) tells in
      let i = c.loop-i.i in
      let file = file_of c.args.file (g.D.Disk.view c.args.disk.now).seen in
      let entry = subst (λ (s : Store). c.in_ok-entry.entry ≡ entry_in (file_of c.args.file s) i) (looked.seen tells) (c.in_ok-entry.ensures.answer mid) in
      length_good c.args.file c.args.h.now file i c.entry_length-length.result (c.entry_length-length.ensures file i entry) (let le = c.loop-i-test.true in omega (arith, le)) (sym c.is_bad_length.ensures ∙ c.if-is_bad_length.false) (c.loop-i.invariant.tested tells);
}
