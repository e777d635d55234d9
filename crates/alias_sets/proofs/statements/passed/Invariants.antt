use Rattle.std.proofs.Common.{◌≡◌, ◌++◌, drop}
use Rattle.alias_sets.specs.Flows as spec
use Rattle.alias_sets.proofs.statements.passed.Given as goal

-- the arguments so far, and those still to come, are all
abbrev pub invariant-arguments : goal.invariant-arguments
invariant-arguments l = l.flows ++ spec.passed l.function l.callee l.index (drop l.arg-index l.args) ≡ l.fn.flows ++ spec.passed l.function l.callee 0 l.args
