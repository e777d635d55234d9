use Rattle.std.proofs.Common.{◌≡◌, ◌+◌, ◌-◌, length, subst, sym, ap, ◌∙◌, arith}
use Rattle.std.specs.Prelude.{slice_index}
use Rattle.std.proofs.lemmas.List.{with_items_is}
use Rattle.machine_code.specs.CodeView.{CodeView}
use Rattle.machine_code.specs.Needs.{needs, gives}
use Rattle.machine_code.specs.Forced.{Known}
use Rattle.machine_code.proofs.Forced.{known_more, all_known, is_here}
use Rattle.machine_code.proofs.depths.depths.Goals as goal

pub loop-p-preserved : goal.loop-p-preserved
loop-p-preserved c =
    let code = c.args.code.now in
    let v = c.loop-p.found in
    let new = c.spread.new.found in
    let p = c.loop-p.p in
    let i = c.fetch-i.result in
    let len' : length new ≡ length v.items = c.spread.auto.found ∙ ap length c.as_mut_slice.ensures.value in
    let items = with_items_is v new (len' ∙ sym v.ok.0) in
    record {
      len = ap length items ∙ len' ∙ c.loop-p.invariant.len;
      known = λ d a.
          let known = c.loop-p.invariant.known d a in
          let h = is_here code v.items d p a known in
          let small = a.small p in
          let slice = c.as_slice.ensures.value in
          let el : slice_index c.as_slice.result.now p ≡ slice_index d p = ap (λ l. slice_index l p) slice ∙ h in
          let after : c.left-after.result ≡ slice_index d p - needs code i + gives i = c.left-after.ensures (omega arith) ∙ ap (λ k. k - needs code i + gives i) el in
          subst (λ l. Known code l d (p + 1)) (sym items)
          (known_more code v.items new d p c.left-after.result i a c.fetch-i.ensures.answer c.loop-p.invariant.len len' after
          (λ q lt f. c.spread.ensures.leads q (omega (arith, ap length c.as_mut_slice.ensures.value)) f)
          (λ q no. c.spread.ensures.others q no ∙ ap (λ l. slice_index l q) c.as_mut_slice.ensures.value)
          known);
      quiet = λ q none.
          ap (λ l. slice_index l q) items
          ∙ c.spread.ensures.others q (none p i c.fetch-i.ensures.answer)
          ∙ ap (λ l. slice_index l q) c.as_mut_slice.ensures.value
          ∙ c.loop-p.invariant.quiet q none;
    }

pub returns-clause-only : goal.returns-clause-only
returns-clause-only c = λ d a. all_known c.args.code.now c.loop-p.found.items d c.loop-p.p a c.loop-p.invariant.len (omega (arith, c.len-p-end.ensures, ap (λ (v : CodeView). length v.instrs) c.code.view_is, c.code.inside.instrs.ok.0)) (c.loop-p.invariant.known d a)
