use Rattle.std.proofs.Common.{◌-◌, length}
use Rattle.c_reader.proofs.Comments.{InComment}
use Rattle.c_reader.proofs.pieces.comment.Given as goal

abbrev pub invariant-loop-n : goal.invariant-loop-n
invariant-loop-n l = InComment l.bytes l.n

abbrev pub decreases-loop-n : goal.decreases-loop-n
decreases-loop-n l = length l.bytes - l.n
