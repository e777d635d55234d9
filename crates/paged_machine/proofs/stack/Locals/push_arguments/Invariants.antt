use Rattle.std.proofs.Common.{◌≡◌, ◌++◌, take, reverse}
use Rattle.paged_machine.proofs.stack.Locals.push_arguments.Given as goal

abbrev pub invariant-loop-k : goal.invariant-loop-k
invariant-loop-k l = l.self ≡ record { items = l.fn.self.items ++ take l.k (reverse (take l.parameters l.operands.items)); room = l.fn.self.room }
