use Rattle.accepted_stores.proofs.NewestLaws.{marks_are}
use Rattle.accepted_stores.proofs.laws.standing_chains_are_of_their_source.Goals as goal

pub returns : goal.returns
returns c = record { law = λ s d found newest stands has. marks_are s d found newest stands has.chain has.newest_is }
