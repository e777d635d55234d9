use Rattle.run_images.proofs.StandLaws.{empty_stands}
use Rattle.run_images.proofs.FoundLaws.{chainless_stands}
use Rattle.run_images.proofs.store_laws.empty_stores_stand.Goals as goal

pub returns-clause-empty : goal.returns-clause-empty
returns-clause-empty c = empty_stands

pub returns-clause-chainless : goal.returns-clause-chainless
returns-clause-chainless c = chainless_stands
