use Rattle.c_reader.specs.Reading.{got, value}
use Rattle.c_reader.proofs.Listings.{ends, goes_on, next_shorter}
use Rattle.c_reader.proofs.Takes.{value_takes}
use Rattle.c_reader.proofs.calls.values.Goals as goal

pub returns-in-None : goal.returns-in-None
returns-in-None c =
    record {
      answer = rw (c.in_ok-push.ensures.ok) (ends _ _ _ _ _ _ c.items.invariant (value_takes c.args.depth) (got c.in_ok-next.next c.in_ok-next.after.now) c.in_ok-next.ensures.answer c.in-None.ensures.answer);
    }

pub items-smaller : goal.items-smaller
items-smaller c =
    next_shorter (value c.args.depth) (value_takes c.args.depth) c.items.rest.now c.in-Some.more.now (got c.in_ok-next.next c.in_ok-next.after.now) c.in_ok-next.ensures.answer c.in-Some.ensures.answer

pub items-preserved : goal.items-preserved
items-preserved c =
    rw (c.in_ok-push.ensures.ok) (goes_on _ _ _ _ _ _ c.items.invariant (value_takes c.args.depth) (got c.in_ok-next.next c.in_ok-next.after.now) c.in-Some.more.now c.in_ok-next.ensures.answer c.in-Some.ensures.answer)
