use Rattle.std.proofs.Common.{rules}
use Rattle.ckpt_base.proofs.sink.MemSink.write_fails.Goals as goal

pub returns-clause-answer : goal.returns-clause-answer
returns-clause-answer c = rw (← c.self.view_is) (search rules)
