use Rattle.std.proofs.Common.{arith, subst, sym, IsTrue, []}
use Rattle.image_chain.proofs.StartLaws.{cut_moments, is_cut, settle_moments, settled, settled_length}
use Rattle.image_chain.proofs.OutputLaws.{step_output, steps_output}
use Rattle.image_chain.proofs.chain.Chain.settle.Goals as goal

pub returns-in_err-cut-clause-any_moment : goal.returns-in_err-cut-clause-any_moment
returns-in_err-cut-clause-any_moment g c = rw (← c.self.view_is) (λ tells rs rests.
    cut_moments c.self.inside.current _ _ _ rs rests.1.0 c.cut.result tells (g.met.D.Disk.lawful c.args.disk.now tells) c.cut.ensures.answer rests.1.1 (omega arith))

pub returns-in_err-sync-clause-any_moment : goal.returns-in_err-sync-clause-any_moment
returns-in_err-sync-clause-any_moment g c = rw (← c.self.view_is) (λ tells rs rests.
    let mid_tells = subst IsTrue (sym c.cut.ensures.answer.tells) tells in
    let cut = is_cut c.self.inside.current _ _ _ rs rests.1.0 c.cut.result tells c.cut.ensures.answer (c.in_ok-cut.ensures.answer.does tells) rests.1.1 (omega arith) in
    let first = cut_moments c.self.inside.current _ _ _ rs rests.1.0 c.cut.result tells (g.met.D.Disk.lawful c.args.disk.now tells) c.cut.ensures.answer rests.1.1 (omega arith) in
    settle_moments c.self.inside.current _ _ _ rs c.sync.result tells (g.met.D.Disk.lawful c.cut.new.self mid_tells) first cut c.sync.ensures.answer)

pub returns-clause-answer : goal.returns-clause-answer
returns-clause-answer g c = rw (← c.self.view_is) (λ tells rs rests.
    let mid_tells = subst IsTrue (sym c.cut.ensures.answer.tells) tells in
    let cut = is_cut c.self.inside.current _ _ _ rs rests.1.0 c.cut.result tells c.cut.ensures.answer (c.in_ok-cut.ensures.answer.does tells) rests.1.1 (omega arith) in
    let rest = settled c.self.inside.current _ _ rs c.sync.result mid_tells c.sync.ensures.answer (c.in_ok-sync.ensures.answer.does mid_tells) cut in
    ((rests.0, ([], rest)), settled_length c.self.inside.current _ rs rest))

pub returns-clause-any_moment : goal.returns-clause-any_moment
returns-clause-any_moment g c = rw (← c.self.view_is) (λ tells rs rests.
    let mid_tells = subst IsTrue (sym c.cut.ensures.answer.tells) tells in
    let cut = is_cut c.self.inside.current _ _ _ rs rests.1.0 c.cut.result tells c.cut.ensures.answer (c.in_ok-cut.ensures.answer.does tells) rests.1.1 (omega arith) in
    let first = cut_moments c.self.inside.current _ _ _ rs rests.1.0 c.cut.result tells (g.met.D.Disk.lawful c.args.disk.now tells) c.cut.ensures.answer rests.1.1 (omega arith) in
    settle_moments c.self.inside.current _ _ _ rs c.sync.result tells (g.met.D.Disk.lawful c.cut.new.self mid_tells) first cut c.sync.ensures.answer)

pub returns-in_err-cut-clause-output : goal.returns-in_err-cut-clause-output
returns-in_err-cut-clause-output g c = rw (← c.self.view_is) (λ tells rs rests. step_output c.self.inside.current _ _ rs _ c.cut.result tells rests.1.1.alone c.cut.ensures.answer)

pub returns-in_err-sync-clause-output : goal.returns-in_err-sync-clause-output
returns-in_err-sync-clause-output g c = rw (← c.self.view_is) (λ tells rs rests. steps_output c.self.inside.current _ _ _ rs _ _ c.cut.result c.sync.result tells rests.1.1.alone c.cut.ensures.answer c.sync.ensures.answer)

pub returns-clause-output : goal.returns-clause-output
returns-clause-output g c = rw (← c.self.view_is) (λ tells rs rests. steps_output c.self.inside.current _ _ _ rs _ _ c.cut.result c.sync.result tells rests.1.1.alone c.cut.ensures.answer c.sync.ensures.answer)
