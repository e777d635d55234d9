use Rattle.code_maker.proofs.ResumedLaws.{code_runs_alike, code_memories_agree}
use Rattle.code_maker.proofs.resumed_laws.codes_run_alike.Goals as goal

pub returns : goal.returns
returns c = record {
  alike = λ p g code m q next s t n r o checked is_main means is listed h one other. code_runs_alike p checked g is_main code means m q next s t is listed h n r o one other;
  memory = λ p g code m q next s t n k r o checked is_main means is listed h one other last. code_memories_agree p checked g is_main code means m q next s t is listed h n r o one other k last;
}
