use Rattle.c_meaning.proofs.Turn.{plain_is}
use Rattle.c_meaning.proofs.run.run_tree.Goals as goal

pub returns : goal.returns
returns c = record {
  answer = plain_is c.append.new.self.list c.in_ok-output.output.list c.output-2.result.now c.run.new.self.progress.output c.in_ok-ending.ending c.run.new.self.progress.ticks c.ticks.result _ c.append.ensures.list c.in_ok-output.ensures.answer.0 c.output-2.ensures.answer c.ticks.ensures.answer
      (c.in_ok-ending.ensures.answer _ (c.in_ok-evaluator.ensures.stands c.args.until));
}
