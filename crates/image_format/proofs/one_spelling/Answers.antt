use Rattle.image_format.proofs.RecordLaws.{one_front}
use Rattle.image_format.proofs.one_spelling.Goals as goal

pub returns : goal.returns
returns c = one_front
