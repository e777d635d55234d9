use Rattle.std.proofs.Common.{subst}
use Rattle.image_format.specs.declared.fields.Marks.{Marks}
use Rattle.ckpt_program.specs.Drill.{WasDrilled}
use Rattle.ckpt_program.specs.LifeStages.{given_with}
use Rattle.ckpt_program.proofs.drill.drill_program.Goals as goal

pub returns : goal.returns
returns c =
    let compiled = c.in_ok-compiled.compiled in
    let drilled = c.in_ok-drilled.drilled in
    let was = subst (λ (m : Marks). WasDrilled (given_with compiled m c.args.input.now c.args.asked) c.args.stops.now drilled) c.marks_of-marks.ensures.answer c.in_ok-drilled.ensures.answer in
    record { answer = (compiled, c.in_ok-compiled.ensures.answer, (drilled, was, c.in_ok-tell_drill.ensures.answer)) }
