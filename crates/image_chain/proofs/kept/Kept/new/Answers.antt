use Rattle.image_chain.proofs.KeptLaws.{none_listed}
use Rattle.image_chain.proofs.kept.Kept.new.Goals as goal

pub returns : goal.returns
returns c = record { answer = λ cell. none_listed 262144 c.in_ok-new.field-0 c.in_ok-vec.field-0.items cell (c.in_ok-vec.ensures.items_if_clones_equal (λ y e. e)) }
