use Rattle.run_images.proofs.LaterLaws.{behind_later}
use Rattle.run_images.proofs.ChainLaws.{kept_later, append_later, replaced_later}
use Rattle.run_images.proofs.store_laws.images_are_not_lost.Goals as goal

pub returns-clause-behind : goal.returns-clause-behind
returns-clause-behind c = behind_later

pub returns-clause-kept : goal.returns-clause-kept
returns-clause-kept c = kept_later

pub returns-clause-appended : goal.returns-clause-appended
returns-clause-appended c = append_later

pub returns-clause-replaced : goal.returns-clause-replaced
returns-clause-replaced c = replaced_later
