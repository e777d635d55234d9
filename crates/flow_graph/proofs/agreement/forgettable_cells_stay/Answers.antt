use Rattle.flow_graph.proofs.AgreeStays.{stays}
use Rattle.flow_graph.proofs.agreement.forgettable_cells_stay.Goals as goal

pub returns : goal.returns
returns c = record {
  law = λ p g l m n j s u k i a es c h mg lt edge at comes mark events unwritten f. stays p h g mg l m n j s u k i a es c lt edge at comes mark events unwritten f;
}
