use Rattle.std.proofs.Common.{◌≡◌, ◌<◌, suc, sym, ◌∙◌, subst, IsTrue, List, length, take, drop, string_bytes, arith}
use Rattle.image_format.specs.Image.{Image}
use Rattle.image_chain.specs.Lists.{Rests}
use Rattle.chain_listing.specs.Lines.{record_lines}
use Rattle.chain_listing.proofs.LineLaws.{record_behind, next_record}
use Rattle.chain_listing.proofs.StoreLaws.{looked_twice, rests_looked}
use Rattle.std.proofs.lemmas.Result.{err_from_is_err_and}
use Rattle.chain_listing.proofs.listing.lines_of.Goals as goal

pub records-preserved : goal.records-preserved
records-preserved g c =
    let u = g.D.Disk.view c.args.disk.now in
    let v = g.D.Disk.view c.records.disk in
    let h = c.records.invariant in
    record {
      looked = looked_twice u v (g.D.Disk.view c.add_record.new.disk) h.looked c.add_record.ensures.looked;
      counts = c.in_ok-add_record.ensures.counts ∙ h.counts;
      told = λ tells rs rests.
          let many = rests.1.1.keeps.count in
          let below : c.records.i < length rs = omega (arith, many, c.count-i-end.ensures.answer) in
          let at = record_behind rs c.records.i below in
          let here = rests_looked c.args.chain.now u v rs tells h.looked rests in
          next_record rs c.records.i at.image (string_bytes c.records.text) (string_bytes c.add_record.new.text) (record_lines rs) at.next
          (c.in_ok-add_record.ensures.answer (subst IsTrue (sym h.looked.tells) tells) (take c.records.i rs) at.image (drop (suc c.records.i) rs) at.before (subst (λ (l : List Image). Rests c.args.chain.now v l) at.split here)) (h.told tells rs rests);
    }

pub returns-in_err-add_record-clause-err : goal.returns-in_err-add_record-clause-err
returns-in_err-add_record-clause-err g c =
    let p = err_from_is_err_and c.from_residual.result c.from_residual.ensures.1 in
    rw (p.1, p.2) (λ tells rs rests.
    let h = c.records.invariant in
    let many = rests.1.1.keeps.count in
    let below : c.records.i < length rs = omega (arith, many, c.count-i-end.ensures.answer) in
    let at = record_behind rs c.records.i below in
    let here = rests_looked c.args.chain.now (g.D.Disk.view c.args.disk.now) (g.D.Disk.view c.records.disk) rs tells h.looked rests in
    c.in_err-add_record.ensures.err (subst IsTrue (sym h.looked.tells) tells) (take c.records.i rs) at.image (drop (suc c.records.i) rs) at.before (subst (λ (l : List Image). Rests c.args.chain.now (g.D.Disk.view c.records.disk) l) at.split here))
