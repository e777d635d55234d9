use Rattle.std.proofs.Common.{◌≡◌, ◌++◌, drop}
use Rattle.alias_sets.specs.Flows as spec
use Rattle.alias_sets.proofs.statements.function_flows.Given as goal

-- the functions so far, and those still to come, are all
abbrev pub invariant-functions : goal.invariant-functions
invariant-functions l = l.flows ++ spec.function_flows l.number (drop l.function-index l.functions) ≡ l.fn.flows ++ spec.function_flows 0 l.functions
