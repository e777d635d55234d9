use Rattle.std.proofs.Common.{◌∙◌, arith, length}
use Rattle.std.proofs.lemmas.List.{get_or_read}
use Rattle.access_summary.proofs.CallLaws.{functions_step}
use Rattle.access_summary.proofs.calls.calls_of.Goals as goal

pub bodies-preserved : goal.bodies-preserved
bodies-preserved c = record {
  number = omega (arith, c.in_ok-caller.ensures.answer, c.bodies.invariant.number);
  calls = functions_step c.args.bodies.now (length c.args.bodies.now) c.bodies.caller c.bodies.body-index c.as_slice.result.now _ c.bodies.edges.items c.add_calls.new.edges.items c.bodies.invariant.number (c.as_slice.ensures ∙ get_or_read c.args.bodies.now c.bodies.body-index _ c.bodies-test.true c.body-item.is _) c.bodies.invariant.calls c.in_ok-add_calls.ensures.answer;
}
