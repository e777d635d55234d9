use Rattle.image_chain.proofs.append.make_step.Goals as goal

pub returns-in-Piece-clause-makes : goal.returns-in-Piece-clause-makes
returns-in-Piece-clause-makes g c = rw c.in-Piece.is c.write_piece.ensures.makes

pub returns-in-SyncRecord-clause-makes : goal.returns-in-SyncRecord-clause-makes
returns-in-SyncRecord-clause-makes g c = rw c.in-SyncRecord.is c.sync_record.ensures.makes

pub returns-in-OpenGate-clause-makes : goal.returns-in-OpenGate-clause-makes
returns-in-OpenGate-clause-makes g c = rw c.in-OpenGate.is c.open_gate.ensures.makes

pub returns-in-SyncGate-clause-makes : goal.returns-in-SyncGate-clause-makes
returns-in-SyncGate-clause-makes g c = rw c.in-SyncGate.is c.sync_gate.ensures.makes
