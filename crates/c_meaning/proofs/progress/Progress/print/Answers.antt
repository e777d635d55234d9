use Rattle.c_meaning.proofs.Did.{print_did}
use Rattle.c_meaning.proofs.progress.Progress.print.Goals as goal

pub returns-in_ok-write_pieces-in-Ok-clause-did : goal.returns-in_ok-write_pieces-in-Ok-clause-did
returns-in_ok-write_pieces-in-Ok-clause-did c =
    print_did c.args.pieces.now c.args.exprs.now c.in-Ok.numbers c.as_slice.result.now c.in_ok-trap.field-0 c.args.self.now c.write_pieces.new.output c.in_ok-trap.ensures.answer c.in-Ok.is c.as_slice.ensures c.in_ok-write_pieces-in-Ok.ensures.written
