use Rattle.std.specs.Prelude.{string_bytes}
use Rattle.generated_program.specs.Generated.{call_line}
use Rattle.generated_program.proofs.Lengths.{call_short, made_short}
use Rattle.generated_program.proofs.program.call_line.Goals as goal

pub returns-clause-short : goal.returns-clause-short
returns-clause-short c = made_short string_bytes c.format.result (call_line c.args.k) 24 c.format.ensures.ok (call_short c.args.k c.requires.most)
