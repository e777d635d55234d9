use Rattle.std.proofs.Common.{ap, arith}
use Rattle.output_file.specs.Pushed.{Pushed}
use Rattle.output_file.proofs.ImageLaws.{images_stay}
use Rattle.output_file.proofs.MomentLaws.{write_behind}
use Rattle.output_file.proofs.output.Output.write_waiting.Goals as goal

pub returns-in_err-write_at-clause-any_moment : goal.returns-in_err-write_at-clause-any_moment
returns-in_err-write_at-clause-any_moment g c = λ tells.
    let lasting = ap (λ (o : Pushed). o.lasting) c.self.view_is in
    let within = c.self.invariant.within in
    write_behind c.self.inside.written c.args.self.now.lasting _ c.write_at.result _ _ c.write_at.ensures.answer tells (g.met.D.Disk.lawful c.args.disk.now tells) (omega (arith, lasting, within))

pub returns-in_err-write_at-clause-same : goal.returns-in_err-write_at-clause-same
returns-in_err-write_at-clause-same g c = λ tells. images_stay _ c.write_at.result _ _ tells c.write_at.ensures.answer

pub returns-clause-any_moment : goal.returns-clause-any_moment
returns-clause-any_moment g c = λ tells.
    let lasting = ap (λ (o : Pushed). o.lasting) c.self.view_is in
    let within = c.self.invariant.within in
    write_behind c.self.inside.written c.args.self.now.lasting _ c.write_at.result _ _ c.write_at.ensures.answer tells (g.met.D.Disk.lawful c.args.disk.now tells) (omega (arith, lasting, within))
