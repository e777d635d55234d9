use Rattle.output_file.proofs.ImageLaws.{images_stay}
use Rattle.output_file.proofs.output.Output.make_lasting.Goals as goal

pub returns-clause-same : goal.returns-clause-same
returns-clause-same g c = λ tells. images_stay _ c.sync.result _ _ tells c.sync.ensures.answer
