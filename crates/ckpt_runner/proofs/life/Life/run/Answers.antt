use Rattle.std.proofs.Common.{subst}
use Rattle.machine_code.specs.CodeView.{CodeView}
use Rattle.paged_machine.specs.Fitting.{FitTogether}
use Rattle.paged_machine.specs.Standing.{StandsIn}
use Rattle.ckpt_runner.proofs.SoundLaws.{moved_sound}
use Rattle.ckpt_runner.proofs.life.Life.run.Goals as goal

pub invariant_of-self : goal.invariant_of-self
invariant_of-self g c =
    let memory = c.run.new.self in
    moved_sound _ memory.machine memory.frames memory.copies memory.pages c.self.invariant (subst (λ (k : CodeView). StandsIn k memory.machine) c.code.ensures.answer c.run.ensures.stands)
    (subst (λ (k : CodeView). FitTogether k memory.frames memory.pages) c.code.ensures.answer c.run.ensures.fit) c.run.ensures.copies c.run.ensures.goes.pages c.run.ensures.goes.marks c.run.ensures.goes.fewer
