use Rattle.disk_model.specs.declared.disk_file.DiskFile.TheVariants.{Output, Two}
use Rattle.disk_model.proofs.Calls.{others_stay}
use Rattle.std.proofs.Common.{subst, sym, IsTrue}
use Rattle.image_chain.proofs.OutputLaws.{two_aside}
use Rattle.image_chain.proofs.ClearLaws.{first_moments, second_moments, cleared, output_stays}
use Rattle.image_chain.proofs.chain.Chain.clear.Goals as goal

pub returns-in_err-start_file-clause-any_moment : goal.returns-in_err-start_file-clause-any_moment
returns-in_err-start_file-clause-any_moment g c = λ tells. first_moments _ c.write_header-header.ensures.answer c.start_file.result _ _ tells (g.met.D.Disk.lawful c.args.disk.now tells) c.start_file.ensures.answer

pub returns-in_err-start_file-clause-output : goal.returns-in_err-start_file-clause-output
returns-in_err-start_file-clause-output g c = λ tells. others_stay Two Output _ c.start_file.result _ _ two_aside tells c.start_file.ensures.answer

pub returns-in_err-start_file-2-clause-any_moment : goal.returns-in_err-start_file-2-clause-any_moment
returns-in_err-start_file-2-clause-any_moment g c = λ tells.
    second_moments _ c.write_header-header.ensures.answer c.start_file.result _ _ tells (g.met.D.Disk.lawful c.args.disk.now tells) c.start_file.ensures.answer c.start_file-2.result _ (c.in_ok-start_file.ensures.answer.does tells) c.start_file-2.ensures.answer

pub returns-in_err-start_file-2-clause-output : goal.returns-in_err-start_file-2-clause-output
returns-in_err-start_file-2-clause-output g c = λ tells.
    output_stays _ c.write_header-header.ensures.answer c.start_file.result _ _ tells (g.met.D.Disk.lawful c.args.disk.now tells) c.start_file.ensures.answer c.start_file-2.result _ (c.in_ok-start_file.ensures.answer.does tells) c.start_file-2.ensures.answer

pub returns-clause-any_moment : goal.returns-clause-any_moment
returns-clause-any_moment g c = λ tells.
    second_moments _ c.write_header-header.ensures.answer c.start_file.result _ _ tells (g.met.D.Disk.lawful c.args.disk.now tells) c.start_file.ensures.answer c.start_file-2.result _ (c.in_ok-start_file.ensures.answer.does tells) c.start_file-2.ensures.answer

pub returns-clause-output : goal.returns-clause-output
returns-clause-output g c = λ tells.
    output_stays _ c.write_header-header.ensures.answer c.start_file.result _ _ tells (g.met.D.Disk.lawful c.args.disk.now tells) c.start_file.ensures.answer c.start_file-2.result _ (c.in_ok-start_file.ensures.answer.does tells) c.start_file-2.ensures.answer

pub returns-clause-answer : goal.returns-clause-answer
returns-clause-answer g c = λ tells.
    let mid_tells = subst IsTrue (sym c.start_file.ensures.answer.tells) tells in
    cleared _ c.write_header-header.ensures.answer c.start_file.result _ _ tells (g.met.D.Disk.lawful c.args.disk.now tells) c.start_file.ensures.answer c.start_file-2.result _ (c.in_ok-start_file.ensures.answer.does tells) c.start_file-2.ensures.answer (c.in_ok-start_file-2.ensures.answer.does mid_tells)
