use Rattle.run_images.proofs.StandLaws.{kept_stands}
use Rattle.run_images.proofs.store_laws.kept_chains_stand.Goals as goal

pub returns : goal.returns
returns c = record { law = kept_stands }
