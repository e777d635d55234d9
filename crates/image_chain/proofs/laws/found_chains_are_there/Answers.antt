use Rattle.image_chain.proofs.FoundLaws.{found_there, there_found, records_listed}
use Rattle.image_chain.proofs.laws.found_chains_are_there.Goals as goal

pub returns-clause-there : goal.returns-clause-there
returns-clause-there c = found_there

pub returns-clause-only : goal.returns-clause-only
returns-clause-only c = there_found

pub returns-clause-records : goal.returns-clause-records
returns-clause-records c = records_listed
