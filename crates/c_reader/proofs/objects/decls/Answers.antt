use Rattle.c_reader.specs.Reading.{got}
use Rattle.c_reader.specs.ReadingItems.{decl}
use Rattle.c_reader.proofs.Listings.{goes_on, next_shorter}
use Rattle.c_reader.proofs.ObjectForms.{decl_takes}
use Rattle.c_reader.proofs.objects.decls.Goals as goal

pub items-smaller : goal.items-smaller
items-smaller c = next_shorter decl decl_takes c.items.rest.now c.in-Some.more.now (got c.in_ok-next.next c.in_ok-next.after.now) c.in_ok-next.ensures.answer c.in-Some.ensures.answer

pub items-preserved : goal.items-preserved
items-preserved c =
    rw (c.in_ok-push.ensures.ok) (goes_on _ _ _ _ _ _ c.items.invariant decl_takes (got c.in_ok-next.next c.in_ok-next.after.now) c.in-Some.more.now c.in_ok-next.ensures.answer c.in-Some.ensures.answer)
