use Rattle.flow_graph.proofs.AgreeRuns.{runs_alike, comes_alike, stands_alike}
use Rattle.flow_graph.proofs.agreement.runs_agree.Goals as goal

pub returns : goal.returns
returns c = record {
  law = λ p g l x s t n h mg a. runs_alike p h g mg l x s t a n;
  comes = λ p g l x y s t u k n m h mg a z. comes_alike p h g mg k l x s t n y u m a z;
  stands = λ p g l x s t n h mg a e. stands_alike p h g mg l x s t n a e;
}
