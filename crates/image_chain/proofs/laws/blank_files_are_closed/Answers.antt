use Rattle.std.proofs.Common.{refl}
use Rattle.image_chain.specs.Clear.{blank}
use Rattle.image_chain.proofs.ClearLaws.{header_of_blank}
use Rattle.image_chain.proofs.laws.blank_files_are_closed.Goals as goal

pub returns : goal.returns
returns c = record { law = λ f. header_of_blank f blank refl }
