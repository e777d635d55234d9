use Rattle.std.proofs.Common.{arith, refl, []}
use Rattle.image_chain.proofs.StartLaws.{start_moments, start_rest, started_keeps, new_header, holds_new}
use Rattle.disk_model.specs.declared.disk_file.DiskFile.TheVariants.{Output, One, Two}
use Rattle.disk_model.proofs.Calls.{others_stay}
use Rattle.image_chain.proofs.OutputLaws.{one_aside, not_two}
use Rattle.image_chain.proofs.chain.Chain.start.Goals as goal

pub returns-in_err-start_file-clause-any_moment : goal.returns-in_err-start_file-clause-any_moment
returns-in_err-start_file-clause-any_moment g c = λ tells none.
    start_moments _ (new_header c.args.every c.args.max) c.start_file.result _ _ tells (g.met.D.Disk.lawful c.args.disk.now tells) c.start_file.ensures.answer (holds_new c.args.every c.args.max (omega arith) c.requires.every c.requires.least c.requires.most) c.write_header-header.ensures.answer none

pub returns-clause-answer : goal.returns-clause-answer
returns-clause-answer g c = λ tells none.
    (refl, ([], start_rest _ _ c.start_file.result _ _ tells c.start_file.ensures.answer (c.in_ok-start_file.ensures.answer.does tells) refl (started_keeps _ (holds_new c.args.every c.args.max (omega arith) c.requires.every c.requires.least c.requires.most).header refl refl refl refl) c.write_header-header.ensures.answer none))

pub returns-clause-any_moment : goal.returns-clause-any_moment
returns-clause-any_moment g c = λ tells none.
    start_moments _ (new_header c.args.every c.args.max) c.start_file.result _ _ tells (g.met.D.Disk.lawful c.args.disk.now tells) c.start_file.ensures.answer (holds_new c.args.every c.args.max (omega arith) c.requires.every c.requires.least c.requires.most) c.write_header-header.ensures.answer none

pub returns-in_err-start_file-clause-output : goal.returns-in_err-start_file-clause-output
returns-in_err-start_file-clause-output g c = λ tells. others_stay One Output _ c.start_file.result _ _ one_aside tells c.start_file.ensures.answer

pub returns-clause-output : goal.returns-clause-output
returns-clause-output g c = λ tells. others_stay One Output _ c.start_file.result _ _ one_aside tells c.start_file.ensures.answer

pub returns-in_err-start_file-clause-aside : goal.returns-in_err-start_file-clause-aside
returns-in_err-start_file-clause-aside g c = λ tells. others_stay One Two _ c.start_file.result _ _ not_two tells c.start_file.ensures.answer

pub returns-clause-aside : goal.returns-clause-aside
returns-clause-aside g c = λ tells. others_stay One Two _ c.start_file.result _ _ not_two tells c.start_file.ensures.answer
