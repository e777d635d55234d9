use Rattle.c_reader.specs.Reading.{got}
use Rattle.c_reader.specs.ReadingStatements.{local}
use Rattle.c_reader.proofs.Listings.{goes_on, next_shorter}
use Rattle.c_reader.proofs.LocalForms.{local_takes}
use Rattle.c_reader.proofs.locals.locals.Goals as goal

pub items-smaller : goal.items-smaller
items-smaller c =
    next_shorter (local c.args.depth) (local_takes c.args.depth) c.items.rest.now c.in-Some.more.now (got c.in_ok-next.next c.in_ok-next.after.now) c.in_ok-next.ensures.answer c.in-Some.ensures.answer

pub items-preserved : goal.items-preserved
items-preserved c =
    rw (c.in_ok-push.ensures.ok) (goes_on _ _ _ _ _ _ c.items.invariant (local_takes c.args.depth) (got c.in_ok-next.next c.in_ok-next.after.now) c.in-Some.more.now c.in_ok-next.ensures.answer c.in-Some.ensures.answer)
