use Rattle.std.specs.Prelude.{string_bytes}
use Rattle.generated_program.specs.Generated.{kept_line}
use Rattle.generated_program.proofs.Lengths.{kept_short, made_short}
use Rattle.generated_program.proofs.program.kept_line.Goals as goal

pub returns-clause-short : goal.returns-clause-short
returns-clause-short c = made_short string_bytes c.format.result (kept_line c.args.k) 26 c.format.ensures.ok (kept_short c.args.k c.requires.most)
