use Rattle.std.specs.Prelude.{string_bytes}
use Rattle.generated_program.specs.Generated.{function_head}
use Rattle.generated_program.proofs.Lengths.{head_short, made_short}
use Rattle.generated_program.proofs.program.function_head.Goals as goal

pub returns-clause-short : goal.returns-clause-short
returns-clause-short c = made_short string_bytes c.format.result (function_head c.args.k) 52 c.format.ensures.ok (head_short c.args.k c.requires.most)
