use Rattle.std.proofs.Common.{sym, ap, ◌∙◌}
use Rattle.machine_code.specs.CodeView.{CodeView}
use Rattle.machine_code.specs.Valid.{has_checkpoint}
use Rattle.machine_code.proofs.Table.{passed, all_passed}
use Rattle.machine_code.proofs.code.Code.place_after.Goals as goal

pub loop-k-preserved : goal.loop-k-preserved
loop-k-preserved c = λ q. passed c.args.node q c.deref-k-items.result.now c.loop-k.k-index (0, 0) c.loop-k-test.true c.if-k-node.false ∙ c.loop-k.invariant q

pub returns-clause-none : goal.returns-clause-none
returns-clause-none c = λ e q.
    ap (λ ks. has_checkpoint (record c.args.self.now { checkpoints = ks }) c.args.node q) (sym (c.deref-k-items.ensures.value ∙ ap (λ (v : CodeView). v.checkpoints) c.self.view_is))
    ∙ sym (c.loop-k.invariant q)
    ∙ all_passed c.args.node q c.deref-k-items.result.now c.loop-k.k-index c.loop-k-test.false
