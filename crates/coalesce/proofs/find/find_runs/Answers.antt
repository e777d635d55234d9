use Rattle.std.proofs.Common.{arith, refl, subst, sym, List}
use Rattle.cell_sets.specs.declared.runs.Run.{Run}
use Rattle.coalesce.proofs.FindLaws.{IsFoundTo, rising_few, found_more}
use Rattle.coalesce.proofs.find.find_runs.Goals as goal

pub push-requires : goal.push-requires
push-requires c =
    let inside = c.loop-from-test.true in
    let few = rising_few 0 c.loop-from.runs c.loop-from.from (c.loop-from.invariant.found.rising inside) in
    record { room = omega (arith, few, inside) }

pub loop-from-preserved : goal.loop-from-preserved
loop-from-preserved c =
    let kept = c.args.kept.now in
    let end = c.next_cell-end.ensures in
    let next = c.next_cell-from-in-loop-from.ensures in
    let more = found_more kept c.loop-from.runs _ c.loop-from.from c.next_cell-end.result c.next_cell-from-in-loop-from.result c.loop-from.invariant.found c.loop-from-test.true refl refl end.rises end.most end.between end.found next.rises next.most next.between next.found in
    record { found = subst (λ (runs : List Run). IsFoundTo kept runs c.next_cell-from-in-loop-from.result) (sym c.push.ensures.answer) more }
