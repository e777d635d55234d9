use Rattle.run_images.proofs.ChainLaws.{kept_stands_on, appended_stands, replaced_stands}
use Rattle.run_images.proofs.store_laws.chains_keep_standing.Goals as goal

pub returns-clause-kept : goal.returns-clause-kept
returns-clause-kept c = kept_stands_on

pub returns-clause-appended : goal.returns-clause-appended
returns-clause-appended c = appended_stands

pub returns-clause-replaced : goal.returns-clause-replaced
returns-clause-replaced c = replaced_stands
