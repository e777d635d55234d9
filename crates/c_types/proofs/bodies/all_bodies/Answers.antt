use Rattle.std.proofs.Common.{◌∙◌, map, take, subst}
use Rattle.c_types.specs.FileNames as names
use Rattle.c_types.specs.Fitting.{seen}
use Rattle.c_types.specs.BodiesKept.{BodiesKept}
use Rattle.c_types.proofs.BodyLaws.{items_step, signatures_step}
use Rattle.c_types.proofs.bodies.all_bodies.Goals as goal

pub loop-i-preserved : goal.loop-i-preserved
loop-i-preserved c = record {
  made = items_step c.args.file.now c.args.items.now c.loop-i.i-index c.i-item.result c.loop-i.done c.item.new.done c.loop-i-test.true c.i-item.is c.in_ok-item.ensures.gives ∙ c.loop-i.invariant.made;
  kept = subst (λ ss. BodiesKept c.args.file.now ss c.item.new.done) (signatures_step c.args.file.now c.args.items.now c.loop-i.i-index c.i-item.result c.loop-i.done c.item.new.done c.loop-i-test.true c.i-item.is) (c.in_ok-item.ensures.kept (map seen (names.signatures_of (take c.loop-i.i-index c.args.items.now))) c.loop-i.invariant.kept);
}
