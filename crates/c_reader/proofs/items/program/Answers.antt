use Rattle.c_reader.specs.Reading.{got}
use Rattle.c_reader.proofs.ItemForms.{item_takes}
use Rattle.c_reader.proofs.Files.{file_goes_on, some_left}
use Rattle.std.proofs.Common.{length}
use Rattle.c_reader.proofs.items.program.Goals as goal

pub items-smaller : goal.items-smaller
items-smaller c = item_takes c.items.rest.now (got c.in_ok-next.next c.in_ok-next.after.now) c.in_ok-next.ensures.answer

pub items-preserved : goal.items-preserved
items-preserved c =
    rw (c.in_ok-push.ensures.ok)
    (file_goes_on c.args.tokens.now c.items.items c.items.rest.now c.items.invariant (got c.in_ok-next.next c.in_ok-next.after.now) (some_left (length c.items.rest.now) c.is_empty.result c.is_empty.ensures c.items-test.true) c.in_ok-next.ensures.answer)
