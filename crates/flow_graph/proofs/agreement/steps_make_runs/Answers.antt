use Rattle.flow_graph.proofs.AgreeRuns.{comes_run, comes_more, stands_after}
use Rattle.flow_graph.proofs.agreement.steps_make_runs.Goals as goal

pub returns : goal.returns
returns c = record {
  run = λ gs k x y s u n m z. comes_run gs k x s n y u m z;
  more = λ gs k x y s u n m d z. comes_more gs k x s n y u m d z;
  stands = stands_after;
}
