use Rattle.dirty_pages.proofs.Served.{dirty_is_served}
use Rattle.dirty_pages.proofs.pages.dirty_pages_are_served_pages.Goals as goal

pub returns : goal.returns
returns c = record { law = dirty_is_served }
