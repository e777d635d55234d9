use Rattle.std.proofs.Common.{◌∙◌}
use Rattle.compiled_program.proofs.ExactSets.{exact_rows}
use Rattle.compiled_program.proofs.compiled.rows_of.Goals as goal

pub dead_rows-requires : goal.dead_rows-requires
dead_rows-requires c = record { count = c.in_ok-exclusions.ensures.exact.dead_len ∙ c.requires.count }

pub read_only_rows-requires : goal.read_only_rows-requires
read_only_rows-requires c = record { count = c.in_ok-exclusions.ensures.exact.read_only_len ∙ c.requires.count }

pub returns : goal.returns
returns c = record { exact = exact_rows c.args.graph.now c.in_ok-exclusions.exclusions c.in_ok-dead.dead.items c.in_ok-read_only.read_only.items c.in_ok-dead.ensures.answer c.in_ok-read_only.ensures.answer c.in_ok-exclusions.ensures.exact }
