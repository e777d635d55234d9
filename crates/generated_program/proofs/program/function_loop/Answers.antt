use Rattle.std.specs.Prelude.{string_bytes}
use Rattle.generated_program.specs.Generated.{function_loop}
use Rattle.generated_program.proofs.Lengths.{loop_short, made_short}
use Rattle.generated_program.proofs.program.function_loop.Goals as goal

pub returns-clause-short : goal.returns-clause-short
returns-clause-short c = made_short string_bytes c.format.result (function_loop c.args.k c.args.factor) 46 c.format.ensures.ok (loop_short c.args.k c.args.factor c.requires.most c.requires.factor)
