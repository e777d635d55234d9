use Rattle.c_tree.specs.Kinds.{keeps_rules}
use Rattle.c_tree.specs.Excludes.{excludes, arm_excludes}
use Rattle.c_types.specs.Statements as spec
use Rattle.c_types.specs.Kept.{marks, arm_keeps}
use Rattle.c_types.proofs.Making.{made_step}
use Rattle.c_types.proofs.KeptLaws.{kept_push}
use Rattle.c_types.proofs.Composed.{single_kept, kept_block, kept_arm, kept_while, kept_do, kept_for, kept_if}
use Rattle.c_types.proofs.statements.+resolved.Goals as goal

pub stmts-loop-s-preserved : goal.stmts-loop-s-preserved
stmts-loop-s-preserved t c = record {
  made = rw c.in_ok-push.ensures.ok (made_step (λ u. spec.stmt c.args.file.now c.args.frame u c.args.in_loop) c.args.stmts.now c.loop-s.s-index c.s-item.result c.in_ok-resolved.resolved c.loop-s.done c.args.scope.now c.loop-s.scope c.stmt.new.scope c.loop-s-test.true c.s-item.is c.loop-s.invariant.made c.in_ok-resolved.ensures.gives.0 c.in_ok-resolved.ensures.gives.1);
  kept = rw c.in_ok-push.ensures.ok (kept_push c.args.file.now c.args.frame (λ w r. keeps_rules w r c.args.in_loop) excludes (marks c.args.scope.now) (marks c.loop-s.scope) (marks c.stmt.new.scope) c.loop-s.done c.in_ok-resolved.resolved c.loop-s.invariant.kept c.in_ok-resolved.ensures.kept);
}

pub each_arm-loop-a-preserved : goal.each_arm-loop-a-preserved
each_arm-loop-a-preserved t c = record {
  made = rw c.in_ok-push.ensures.ok (made_step (λ a. spec.arm_part c.args.file.now c.args.frame c.args.line c.args.in_loop (spec.arm c.args.file.now c.args.frame a)) c.args.arms.now c.loop-a.a-index c.a-item.result c.in_ok-resolved.resolved c.loop-a.done c.args.scope.now c.loop-a.scope c.arm.new.scope c.loop-a-test.true c.a-item.is c.loop-a.invariant.made c.in_ok-resolved.ensures.gives.0 c.in_ok-resolved.ensures.gives.1);
  kept = rw c.in_ok-push.ensures.ok (kept_push c.args.file.now c.args.frame (λ w a. arm_keeps w a c.args.in_loop) arm_excludes (marks c.args.scope.now) (marks c.loop-a.scope) (marks c.arm.new.scope) c.loop-a.done c.in_ok-resolved.resolved c.loop-a.invariant.kept c.in_ok-resolved.ensures.kept);
}

pub block-returns-clause-kept : goal.block-returns-clause-kept
block-returns-clause-kept t c =
    rw c.leave.ensures.answer (kept_block c.args.file.now c.args.frame (marks c.args.scope.now) (marks c.listed.new.scope) c.args.in_loop c.in_ok-resolved.resolved (rw c.in_ok-enter.ensures.answer at c.in_ok-resolved.ensures.kept))

pub arm-returns-clause-kept : goal.arm-returns-clause-kept
arm-returns-clause-kept t c =
    kept_arm c.args.file.now c.args.frame (marks c.args.scope.now) (marks c.inside.new.scope) c.args.in_loop c.in_ok-test.test c.in_ok-body.body (λ w f. c.in_ok-test.ensures.kept w f) c.in_ok-body.ensures.kept

pub while_stmt-returns-clause-kept : goal.while_stmt-returns-clause-kept
while_stmt-returns-clause-kept t c =
    rw c.in_ok-new.ensures (kept_while c.args.file.now c.args.frame (marks c.args.scope.now) (marks c.inside.new.scope) c.args.in_loop c.in_ok-x.x c.in_ok-resolved.resolved (λ w f. c.in_ok-x.ensures.kept w f) c.in_ok-resolved.ensures.kept)

pub do_stmt-returns-clause-kept : goal.do_stmt-returns-clause-kept
do_stmt-returns-clause-kept t c =
    rw c.in_ok-new.ensures (kept_do c.args.file.now c.args.frame (marks c.args.scope.now) (marks c.inside.new.scope) c.args.in_loop c.in_ok-x.x c.in_ok-resolved.resolved (λ w f. c.in_ok-x.ensures.kept w f) c.in_ok-resolved.ensures.kept)

pub for_parts-returns-clause-kept : goal.for_parts-returns-clause-kept
for_parts-returns-clause-kept t c =
    rw c.in_ok-new.ensures (kept_for c.args.file.now c.args.frame (marks c.args.scope.now) (marks c.inside.new.scope) (marks c.head.new.scope) c.args.in_loop c.in_ok-i.i c.in_ok-i.x c.in_ok-i.u c.in_ok-resolved.resolved c.in_ok-i.ensures.kept c.in_ok-resolved.ensures.kept)

pub stmt-returns-in_ok-behind-in-If-clause-kept : goal.stmt-returns-in_ok-behind-in-If-clause-kept
stmt-returns-in_ok-behind-in-If-clause-kept t c =
    kept_if c.args.file.now c.args.frame (marks c.args.scope.now) (marks c.last.new.scope) (marks c.arms.new.scope) c.args.in_loop c.in_ok-resolved-in-If.resolved c.in_ok-behind-in-If.behind c.in_ok-resolved-in-If.ensures.kept c.in_ok-behind-in-If.ensures.kept

pub stmt-returns-in-Declare-clause-kept : goal.stmt-returns-in-Declare-clause-kept
stmt-returns-in-Declare-clause-kept t c = c.declared.ensures.kept c.args.in_loop

pub stmt-returns-in-Set-clause-kept : goal.stmt-returns-in-Set-clause-kept
stmt-returns-in-Set-clause-kept t c = single_kept c.args.file.now c.args.frame (marks c.args.scope.now) c.args.in_loop c.set_stmt.result c.set_stmt.ensures.plain (λ w f. c.set_stmt.ensures.kept w c.args.in_loop f)

pub stmt-returns-in-Call-clause-kept : goal.stmt-returns-in-Call-clause-kept
stmt-returns-in-Call-clause-kept t c = single_kept c.args.file.now c.args.frame (marks c.args.scope.now) c.args.in_loop c.call_stmt.result c.call_stmt.ensures.plain (λ w f. c.call_stmt.ensures.kept w c.args.in_loop f)

pub stmt-returns-in-Put-clause-kept : goal.stmt-returns-in-Put-clause-kept
stmt-returns-in-Put-clause-kept t c = single_kept c.args.file.now c.args.frame (marks c.args.scope.now) c.args.in_loop c.put_stmt.result c.put_stmt.ensures.plain (λ w f. c.put_stmt.ensures.kept w c.args.in_loop f)

pub stmt-returns-in-Print-clause-kept : goal.stmt-returns-in-Print-clause-kept
stmt-returns-in-Print-clause-kept t c = single_kept c.args.file.now c.args.frame (marks c.args.scope.now) c.args.in_loop c.print_stmt.result c.print_stmt.ensures.plain (λ w f. c.print_stmt.ensures.kept w c.args.in_loop f)

pub stmt-returns-in-Return-clause-kept : goal.stmt-returns-in-Return-clause-kept
stmt-returns-in-Return-clause-kept t c = single_kept c.args.file.now c.args.frame (marks c.args.scope.now) c.args.in_loop c.return_stmt.result c.return_stmt.ensures.plain (λ w f. c.return_stmt.ensures.kept w c.args.in_loop f)
