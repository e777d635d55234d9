use Rattle.std.proofs.Common.{arith}
use Rattle.alias_sets.proofs.Lists.{members_step, members_end}
use Rattle.alias_sets.proofs.points.members.Goals as goal

pub push_if-requires-clause-below : goal.push_if-requires-clause-below
push_if-requires-clause-below c o h = ((c.objects.invariant.members o).0 h).0

pub objects-preserved : goal.objects-preserved
objects-preserved c = record {
  rising = c.in_ok-push_if.ensures.rising;
  members = members_step c.args.row.now c.objects.object _ c.objects.objects.items c.push_if.new.objects.items c.objects.invariant.members c.get.ensures.answer c.in_ok-push_if.ensures.answer;
}

pub returns-clause-answer : goal.returns-clause-answer
returns-clause-answer c = members_end c.args.row.now c.objects.object c.objects.objects.items (omega arith) c.objects.invariant.members
