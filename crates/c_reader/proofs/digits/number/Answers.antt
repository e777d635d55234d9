use Rattle.std.proofs.Common.{sym, ◌∙◌}
use Rattle.c_reader.proofs.Numbers.{goes_on, stops, over}
use Rattle.c_reader.proofs.digits.number.Goals as goal

pub returns-in-None : goal.returns-in-None
returns-in-None c = sym (stops c.args.bytes.now c.loop-b.value c.loop-b.b-index c.loop-b.invariant c.loop-b-test.true (sym c.in-None.ensures))

pub loop-b-preserved : goal.loop-b-preserved
loop-b-preserved c = goes_on c.args.bytes.now c.loop-b.value c.loop-b.b-index c.loop-b.invariant c.in-Some.next c.loop-b-test.true (sym c.in-Some.ensures)

pub returns : goal.returns
returns c = sym (over c.args.bytes.now c.loop-b.value c.loop-b.b-index c.loop-b.invariant (sym c.leading_zero.ensures ∙ c.if-leading_zero.false) c.loop-b-test.false)
