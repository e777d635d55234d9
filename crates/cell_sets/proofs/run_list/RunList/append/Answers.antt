use Rattle.std.proofs.Common.{arith}
use Rattle.cell_sets.proofs.RunLaws.{front_of, front_few, joined_rising, pushed_rising, front_all_few}
use Rattle.cell_sets.proofs.run_list.RunList.append.Goals as goal

pub overflow_add-last : goal.overflow_add-last
overflow_add-last c =
    let f = front_of c.args.self.now c.pop.new.self c.in-Some.last c.args.from c.in-Some.ensures.some c.requires.rising in omega arith

pub push-requires-then-last-from : goal.push-requires-then-last-from
push-requires-then-last-from c =
    let few = front_few c.args.self.now c.pop.new.self c.in-Some.last c.args.from c.in-Some.ensures.some c.requires.rising in record { room = omega (arith, few, c.requires.few, c.requires.some) }

pub push-requires-else-last-from : goal.push-requires-else-last-from
push-requires-else-last-from c =
    let few = front_few c.args.self.now c.pop.new.self c.in-Some.last c.args.from c.in-Some.ensures.some c.requires.rising in record { room = omega (arith, few, c.requires.few, c.requires.some) }

pub push-requires-else-last-from-2 : goal.push-requires-else-last-from-2
push-requires-else-last-from-2 c =
    let few = front_all_few c.args.self.now c.pop.new.self c.push-else-last-from.new.self c.in-Some.last c.args.from c.in-Some.ensures.some c.requires.rising c.if-last-from.false c.push-else-last-from.ensures.answer in
    record { room = omega (arith, few, c.requires.few, c.requires.some) }

pub returns-then-last-from-clause-rising : goal.returns-then-last-from-clause-rising
returns-then-last-from-clause-rising c =
    joined_rising c.args.self.now c.pop.new.self c.push-then-last-from.new.self c.in-Some.last c.args.from c.args.to
    c.in-Some.ensures.some c.requires.rising c.if-last-from.true c.requires.some c.push-then-last-from.ensures.answer

pub returns-else-last-from-clause-rising : goal.returns-else-last-from-clause-rising
returns-else-last-from-clause-rising c =
    pushed_rising c.args.self.now c.pop.new.self c.push-else-last-from.new.self c.push-else-last-from-2.new.self c.in-Some.last c.args.from c.args.to
    c.in-Some.ensures.some c.requires.rising c.if-last-from.false c.requires.some c.push-else-last-from.ensures.answer c.push-else-last-from-2.ensures.answer
