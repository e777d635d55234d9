use Rattle.std.proofs.Common.{ap, subst, IsTrue, arith}
use Rattle.output_file.specs.Pushed.{Pushed}
use Rattle.output_file.proofs.ImageLaws.{then_images_stay}
use Rattle.output_file.proofs.output.Output.write_past_the_end.Goals as goal

pub write_at-requires : goal.write_at-requires
write_at-requires g c = record {
  within = λ mid_tells.
      let tells = subst IsTrue c.in_ok-write_waiting.ensures.steady.tells mid_tells in
      let fits = c.requires.fits tells in
      let on = c.in_ok-write_waiting.ensures.answer tells fits.0 fits.1 in
      let whole = on.written in
      let written = ap (λ (o : Pushed). o.written) c.self.view_is in
      omega (arith, whole, written);
}

pub returns-clause-same : goal.returns-clause-same
returns-clause-same g c = λ tells.
    let run = c.in_ok-write_waiting.ensures in
    then_images_stay _ c.write_at.result _ _ _ run.steady.tells tells (run.same tells) c.write_at.ensures.answer
