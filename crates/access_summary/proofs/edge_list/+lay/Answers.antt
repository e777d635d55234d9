use Rattle.std.proofs.Common.{◌+◌, ◌-◌, ap, arith, refl, subst, ◌∙◌}
use Rattle.std.specs.Prelude.{slice_set}
use Rattle.std.proofs.lemmas.Option.{slice_get_read}
use Rattle.c_tree.specs.Nodes.{node_count}
use Rattle.access_summary.specs.Edges.{test}
use Rattle.access_summary.specs.Laying.{IsLaid}
use Rattle.access_summary.proofs.Lay.{block_more, arms_number, arms_more, arms_done, do_done, begun_some}
use Rattle.access_summary.proofs.edge_list.+lay.Goals as goal

pub lay_all-block-preserved : goal.lay_all-block-preserved
lay_all-block-preserved t c =
    let h = slice_get_read _ _ (c.block.i - 1) c.index-stmts-i.result refl (omega (arith, c.block.invariant.within)) c.index-stmts-i.is in
    block_more _ _ _ _ _ _ _ _ _ _ _ _ c.block.invariant c.block-test.true h c.node_count-m.ensures.answer c.in_ok-next.ensures.laid

pub lay_arms-arms-preserved : goal.lay_arms-arms-preserved
lay_arms-arms-preserved t c =
    let h = slice_get_read _ _ (c.arms.i - 1) c.index-arms-i.result refl (omega (arith, c.arms.invariant.within)) c.index-arms-i.is in
    let n = arms_number _ _ _ _ _ c.arms.invariant.number c.arms-test.true h in
    record {
      within = omega (arith, c.arms.invariant.within);
      number = omega (arith, n, c.node_count-m.ensures.answer);
      laid = λ s first old b. arms_more s first c.args.to old c.args.arms.now c.arms.i c.arms.m c.arms.entry c.arms.edges _ _ _ c.lay.new.edges c.push_test.new.edges
          (c.arms.invariant.laid s first old b) c.arms-test.true h c.node_count-m.ensures.answer c.in_ok-body.ensures.laid c.in_ok-push_test.ensures.pushed;
    }

pub lay_arms-returns : goal.lay_arms-returns
lay_arms-returns t c = record {
  laid = λ s first old b. arms_done s first c.args.to old c.args.arms.now c.arms.i c.arms.m c.arms.entry c.arms.edges (c.arms.invariant.laid s first old b) (omega (arith, c.arms-test.false));
}

pub lay-returns-in_ok-start-in-Some : goal.lay-returns-in_ok-start-in-Some
lay-returns-in_ok-start-in-Some t c = record {
  laid = c.in_ok-start-in-Some.ensures.laid c.args.stmt.now c.args.first c.args.edges.now
      (begun_some c.args.stmt.now c.args.first c.args.to c.args.edges.now c.as_slice-in-Some.result.now c.in-If.arms c.in-If.last c.in-Some.s c.get.result.now c.get-in-Some.result.now
      c.node_count-in-If.result c.node_count-in-Some.result _ c.in_ok-entry-in-Some.entry c.lay.new.edges c.in-If.is c.as_slice-in-Some.ensures c.in-Some.is
      c.node_count-in-If.ensures.answer c.node_count-in-Some.ensures.answer c.get.ensures c.get-in-Some.ensures refl c.in_ok-entry-in-Some.ensures.laid);
}

pub lay-returns-in_ok-body-in-Do : goal.lay-returns-in_ok-body-in-Do
lay-returns-in_ok-body-in-Do t c = record {
  laid = do_done c.args.stmt.now c.in-Do.s c.in-Do.field-1 c.args.first (c.args.first + c.node_count-in-Do.result) c.args.to c.in_ok-body-in-Do.body _ c.args.edges.now c.push.new.self c.lay-in-Do.new.edges c.set.new.self c.loop_targets-in-Do.result
      c.in-Do.is (omega (arith, c.node_count-in-Do.ensures.answer, ap node_count c.get-in-Do.ensures)) c.loop_targets-in-Do.ensures.answer c.in_ok-push-in-Do.ensures.ok
      (subst (λ v. IsLaid v c.args.first c.loop_targets-in-Do.result c.in_ok-body-in-Do.body c.push.new.self c.lay-in-Do.new.edges) c.get-in-Do-2.ensures c.in_ok-body-in-Do.ensures.laid)
      (c.set.ensures ∙ ap (λ v. slice_set c.lay-in-Do.new.edges v (test c.in_ok-body-in-Do.body c.args.to.next)) c.len-place.ensures);
}
