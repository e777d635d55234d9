use Rattle.std.proofs.Common.{arith, ◌≤◌, ◌<◌, ◌∙◌, ap, ◌||◌, ◌&&◌, leb, ltb}
use Rattle.cell_sets.specs.Runs.{in_runs}
use Rattle.cell_sets.proofs.RunLaws.{stretch, whole}
use Rattle.cell_sets.proofs.sweep.merge.Goals as goal

pub cells-preserved : goal.cells-preserved
cells-preserved c =
    let i = c.cells.invariant in
    let next = c.if-next_a-next_b.next in
    let below_a : next ≤ c.segment-in_a.result.1 = omega arith in
    let below_b : next ≤ c.segment-in_b.result.1 = omega arith in
    let further : c.cells.position < next = omega arith in
    record {
      within = omega arith;
      out_rising = c.in_ok-append_if.ensures.rising;
      so_far = stretch c.args.operation c.cells.out.items c.append_if.new.out.items c.args.a.now c.args.b.now c.cells.left.now c.cells.right.now c.cells.position next _ _ i.so_far i.left_same i.right_same
          (λ q a b. c.segment-in_a.ensures.same q a (omega arith)) (λ q a b. c.segment-in_b.ensures.same q a (omega arith)) i.out_rising
          (λ q. c.in_ok-append_if.ensures.added q ∙ ap (λ k. in_runs c.cells.out.items q || (k && (leb c.cells.position q && ltb q next))) c.keeps.ensures);
      left_rising = c.advance-left.ensures.rising;
      left_ahead = c.advance-left.ensures.ahead;
      left_same = λ q l. c.advance-left.ensures.same q l ∙ i.left_same q (omega arith);
      right_rising = c.advance-right.ensures.rising;
      right_ahead = c.advance-right.ensures.ahead;
      right_same = λ q l. c.advance-right.ensures.same q l ∙ i.right_same q (omega arith);
    }

pub returns-clause-same : goal.returns-clause-same
returns-clause-same c =
    let i = c.cells.invariant in
    whole c.args.operation c.cells.out.items c.args.a.now c.args.b.now c.cells.position c.args.universe (omega arith) i.within i.out_rising c.requires.a c.requires.b i.so_far
