use Rattle.std.specs.Prelude.{string_bytes}
use Rattle.generated_program.specs.Generated.{function_end}
use Rattle.generated_program.proofs.Lengths.{end_short, made_short}
use Rattle.generated_program.proofs.program.function_end.Goals as goal

pub returns-clause-short : goal.returns-clause-short
returns-clause-short c = made_short string_bytes c.format.result (function_end c.args.k) 31 c.format.ensures.ok (end_short c.args.k c.requires.most)
