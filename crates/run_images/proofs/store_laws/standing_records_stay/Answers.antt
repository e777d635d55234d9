use Rattle.run_images.proofs.LastingLaws.{still_stand}
use Rattle.run_images.proofs.store_laws.standing_records_stay.Goals as goal

pub returns : goal.returns
returns c = record { law = still_stand }
