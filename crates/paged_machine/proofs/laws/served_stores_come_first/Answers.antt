use Rattle.paged_machine.proofs.StopLaws.{is_done, comes_first}
use Rattle.paged_machine.proofs.laws.served_stores_come_first.Goals as goal

pub returns : goal.returns
returns c = record { done = is_done; first = comes_first }
