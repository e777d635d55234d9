use Rattle.image_chain.proofs.ReplaceLaws.{sync_moments, synced}
use Rattle.image_chain.proofs.OutputLaws.{beside_output}
use Rattle.image_chain.proofs.replace.sync_record.Goals as goal

pub returns-in_err-sync-clause-any_moment : goal.returns-in_err-sync-clause-any_moment
returns-in_err-sync-clause-any_moment g c = λ tells rs written.
    sync_moments c.args.chain.now _ c.args.image.now c.sync.result _ _ rs c.beside.ensures c.sync.ensures.answer tells (g.met.D.Disk.lawful c.args.disk.now tells) written

pub returns-clause-answer : goal.returns-clause-answer
returns-clause-answer g c = λ tells rs written.
    synced c.args.chain.now _ c.args.image.now _ _ rs c.beside.ensures (c.in_ok-sync.ensures.answer.does tells) written

pub returns-clause-any_moment : goal.returns-clause-any_moment
returns-clause-any_moment g c = λ tells rs written.
    sync_moments c.args.chain.now _ c.args.image.now c.sync.result _ _ rs c.beside.ensures c.sync.ensures.answer tells (g.met.D.Disk.lawful c.args.disk.now tells) written

pub returns-in_err-sync-clause-output : goal.returns-in_err-sync-clause-output
returns-in_err-sync-clause-output g c = λ tells. beside_output c.args.chain.now _ _ c.sync.result _ _ c.beside.ensures tells c.sync.ensures.answer

pub returns-clause-output : goal.returns-clause-output
returns-clause-output g c = λ tells. beside_output c.args.chain.now _ _ c.sync.result _ _ c.beside.ensures tells c.sync.ensures.answer
