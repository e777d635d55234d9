use Rattle.std.proofs.Common.{◌+◌, ◌*◌, length}
use Rattle.c_reader.proofs.StatementTurns.{GoingBlock, GoingChain}
use Rattle.c_reader.proofs.statements.+stmt.Given as goal

abbrev pub decreases-boxed : goal.decreases-boxed
decreases-boxed l = 6 * l.depth + 1

abbrev pub decreases-entry : goal.decreases-entry
decreases-entry l = 6 * l.depth + 1

abbrev pub decreases-block : goal.decreases-block
decreases-block l = 6 * l.depth + 3

abbrev pub decreases-arm : goal.decreases-arm
decreases-arm l = 6 * l.depth + 1

abbrev pub decreases-last_arm : goal.decreases-last_arm
decreases-last_arm l = 6 * l.depth + 2

abbrev pub decreases-chain : goal.decreases-chain
decreases-chain l = 6 * l.depth + 4

abbrev pub decreases-while_loop : goal.decreases-while_loop
decreases-while_loop l = 6 * l.depth + 2

abbrev pub decreases-do_loop : goal.decreases-do_loop
decreases-do_loop l = 6 * l.depth + 2

abbrev pub decreases-for_loop : goal.decreases-for_loop
decreases-for_loop l = 6 * l.depth + 2

abbrev pub decreases-inner_block : goal.decreases-inner_block
decreases-inner_block l = 6 * l.depth + 4

abbrev pub decreases-statement : goal.decreases-statement
decreases-statement l = 6 * l.depth + 5

abbrev pub decreases-stmt : goal.decreases-stmt
decreases-stmt l = 6 * l.depth

abbrev pub invariant-block-items : goal.invariant-block-items
invariant-block-items l = GoingBlock l.depth l.in_loop l.fn.tokens l.statements l.rest

abbrev pub decreases-block-items : goal.decreases-block-items
decreases-block-items l = length l.rest

abbrev pub invariant-chain-arms : goal.invariant-chain-arms
invariant-chain-arms l = GoingChain l.depth l.in_loop l.line l.fn.tokens l.arms l.rest

abbrev pub decreases-chain-arms : goal.decreases-chain-arms
decreases-chain-arms l = length l.rest
