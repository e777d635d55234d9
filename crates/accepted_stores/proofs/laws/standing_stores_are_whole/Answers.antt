use Rattle.accepted_stores.proofs.WholeLaws.{standing_whole}
use Rattle.accepted_stores.proofs.laws.standing_stores_are_whole.Goals as goal

pub returns : goal.returns
returns c = record { law = standing_whole }
