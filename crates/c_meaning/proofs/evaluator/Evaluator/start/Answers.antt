use Rattle.std.proofs.Common.{refl}
use Rattle.c_meaning.proofs.Turn.{started}
use Rattle.c_meaning.proofs.evaluator.Evaluator.start.Goals as goal

pub returns-clause-stands : goal.returns-clause-stands
returns-clause-stands c =
    started c.add.new.self _ _ _ c.args.tree.now c.args.input c.add.ensures.same c.in_ok-add.ensures.added c.new-2.ensures refl c.as_slice.ensures refl
    c.in_ok-memory.ensures.objects c.in_ok-memory.ensures.cells c.in_ok-memory.ensures.locals refl c.new.ensures refl
