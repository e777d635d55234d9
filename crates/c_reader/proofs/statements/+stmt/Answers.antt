use Rattle.c_reader.specs.Reading.{got}
use Rattle.c_reader.proofs.StatementSound.{entry_takes}
use Rattle.c_reader.proofs.StatementTurns.{block_goes_on, next_shorter, chain_goes_on}
use Rattle.c_reader.proofs.statements.+stmt.Goals as goal

pub block-items-smaller : goal.block-items-smaller
block-items-smaller t c =
    entry_takes c.args.depth c.args.in_loop c.items.rest.now (got c.in_ok-next-in-None.next c.in_ok-next-in-None.after.now) c.in_ok-next-in-None.ensures.answer

pub block-items-preserved : goal.block-items-preserved
block-items-preserved t c =
    rw (c.in_ok-push-in-None.ensures.ok)
    (block_goes_on c.args.depth c.args.in_loop c.args.tokens.now c.items.statements c.items.rest.now c.items.invariant (got c.in_ok-next-in-None.next c.in_ok-next-in-None.after.now) c.in-None.ensures.answer c.in_ok-next-in-None.ensures.answer)

pub chain-arms-smaller : goal.chain-arms-smaller
chain-arms-smaller t c =
    next_shorter c.args.depth c.args.in_loop c.arms.rest.now c.in-Some.behind.now c.in-Some-skip.more.now (got c.in_ok-next.next c.in_ok-next.after.now) c.in_ok-next.ensures.answer c.in-Some.ensures.answer c.in-Some-skip.ensures.answer

pub chain-arms-preserved : goal.chain-arms-preserved
chain-arms-preserved t c =
    rw (c.in_ok-push.ensures.ok)
    (chain_goes_on c.args.depth c.args.in_loop c.args.line c.args.tokens.now c.arms.arms c.arms.rest.now c.arms.invariant (got c.in_ok-next.next c.in_ok-next.after.now) c.in_ok-next.ensures.answer c.in-Some.behind.now c.in-Some.ensures.answer c.in-Some-skip.more.now c.in-Some-skip.ensures.answer)
