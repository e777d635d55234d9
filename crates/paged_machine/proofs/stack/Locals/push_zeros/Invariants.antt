use Rattle.std.proofs.Common.{◌≡◌, ◌++◌, replicate}
use Rattle.paged_machine.proofs.stack.Locals.push_zeros.Given as goal

abbrev pub invariant-loop : goal.invariant-loop
invariant-loop l = l.self ≡ record { items = l.fn.self.items ++ replicate l.counter 0; room = l.fn.self.room }
