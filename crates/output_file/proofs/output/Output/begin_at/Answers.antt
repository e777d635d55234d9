use Rattle.output_file.proofs.ImageLaws.{images_stay, then_images_stay}
use Rattle.output_file.proofs.MomentLaws.{cut_behind, sync_behind}
use Rattle.output_file.proofs.output.Output.begin_at.Goals as goal

pub returns-in_err-cut-clause-any_moment : goal.returns-in_err-cut-clause-any_moment
returns-in_err-cut-clause-any_moment g c = λ tells. cut_behind c.args.length c.cut.result _ _ c.cut.ensures.answer tells (g.met.D.Disk.lawful c.args.disk.now tells)

pub returns-in_err-sync-clause-any_moment : goal.returns-in_err-sync-clause-any_moment
returns-in_err-sync-clause-any_moment g c = λ tells.
    sync_behind c.sync.result _ _ _ _ tells (cut_behind c.args.length c.cut.result _ _ c.cut.ensures.answer tells (g.met.D.Disk.lawful c.args.disk.now tells)) c.sync.ensures.answer c.sync.ensures.only

pub returns-clause-any_moment : goal.returns-clause-any_moment
returns-clause-any_moment g c = λ tells.
    sync_behind c.sync.result _ _ _ _ tells (cut_behind c.args.length c.cut.result _ _ c.cut.ensures.answer tells (g.met.D.Disk.lawful c.args.disk.now tells)) c.sync.ensures.answer c.sync.ensures.only

pub returns-in_err-sync-clause-same : goal.returns-in_err-sync-clause-same
returns-in_err-sync-clause-same g c = λ tells.
    then_images_stay _ c.sync.result _ _ _ c.cut.ensures.answer.tells tells (images_stay _ c.cut.result _ _ tells c.cut.ensures.answer) c.sync.ensures.answer

pub returns-clause-same : goal.returns-clause-same
returns-clause-same g c = λ tells.
    then_images_stay _ c.sync.result _ _ _ c.cut.ensures.answer.tells tells (images_stay _ c.cut.result _ _ tells c.cut.ensures.answer) c.sync.ensures.answer
