use Rattle.std.proofs.Common.{arith}
use Rattle.cell_sets.proofs.RunLaws.{front_of, joined_rising, pushed_rising}
use Rattle.cell_sets.proofs.sweep.append.Goals as goal

pub overflow_add-last : goal.overflow_add-last
overflow_add-last c =
    let f = front_of c.args.out.now.items c.pop.new.self.items c.in-Some.last c.args.from c.in-Some.ensures.items c.requires.rising in omega arith

pub returns-in_ok-push-in-Some-clause-rising : goal.returns-in_ok-push-in-Some-clause-rising
returns-in_ok-push-in-Some-clause-rising c =
    joined_rising c.args.out.now.items c.pop.new.self.items c.push-then-last-from.new.self.items c.in-Some.last c.args.from c.args.to
    c.in-Some.ensures.items c.requires.rising c.if-last-from.true c.requires.some c.in_ok-push-in-Some.ensures.items

pub returns-in_ok-push-in-Some-3-clause-rising : goal.returns-in_ok-push-in-Some-3-clause-rising
returns-in_ok-push-in-Some-3-clause-rising c =
    pushed_rising c.args.out.now.items c.pop.new.self.items c.push-else-last-from.new.self.items c.push-else-last-from-2.new.self.items c.in-Some.last c.args.from c.args.to
    c.in-Some.ensures.items c.requires.rising c.if-last-from.false c.requires.some c.in_ok-push-in-Some-2.ensures.items c.in_ok-push-in-Some-3.ensures.items
