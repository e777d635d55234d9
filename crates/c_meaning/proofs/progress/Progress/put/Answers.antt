use Rattle.c_meaning.proofs.Did.{put_did}
use Rattle.c_meaning.proofs.progress.Progress.put.Goals as goal

pub returns-in_ok-push-in-Ok-clause-did : goal.returns-in_ok-push-in-Ok-clause-did
returns-in_ok-push-in-Ok-clause-did c = put_did c.args.expr.now c.in-Ok.a c.low_byte.result c.args.self.now c.push.new.self c.in-Ok.ensures.answer c.low_byte.ensures.answer c.in_ok-push-in-Ok.ensures.ok
