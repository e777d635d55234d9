use Rattle.std.proofs.Common.{ℕ, List, Contains, subst}
use Rattle.access_summary.specs.Touch.{Adds, LiesIn}
use Rattle.access_summary.proofs.Adding.{objects_of_variable}
use Rattle.access_summary.proofs.touch.add_source.Goals as goal

pub returns-in_ok-objects-in-Variable : goal.returns-in_ok-objects-in-Variable
returns-in_ok-objects-in-Variable c = record {
  answer = objects_of_variable c.args.program.now c.args.points.now c.args.source c.in-Variable.variable c.in_ok-objects-in-Variable.objects.items c.args.row.now c.add_objects.new.row c.in-Variable.is c.requires.points c.in_ok-objects-in-Variable.ensures.answer
      (subst (λ (list : List ℕ). Adds c.args.row.now c.add_objects.new.row (λ q. (o : ℕ) × Contains list o × LiesIn c.args.program.now o q)) c.deref.ensures.value c.add_objects.ensures.answer);
}
