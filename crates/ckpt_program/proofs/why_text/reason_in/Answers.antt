use Rattle.ckpt_program.proofs.MainGraphs.{exclude_there, reason_made}
use Rattle.ckpt_program.proofs.why_text.reason_in.Goals as goal

pub why-requires-clause-last : goal.why-requires-clause-last
why-requires-clause-last c = exclude_there c.args.program.now c.args.main.now c.args.exclude c.args.cell c.requires.main c.requires.both

pub returns : goal.returns
returns c = record { reason = reason_made c.args.program.now c.args.main.now c.args.exclude c.args.cell c.why.result c.requires.main c.requires.both c.why.ensures.reason }
