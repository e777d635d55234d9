use Rattle.std.proofs.Common.{◌≡◌, ◌++◌, drop}
use Rattle.access_summary.specs.Summaries.{bodies_from}
use Rattle.access_summary.proofs.calls.bodies_of.Given as goal

-- the functions so far, and those still to come, are all
abbrev pub invariant-functions : goal.invariant-functions
invariant-functions l = l.bodies ++ bodies_from l.number (drop l.function-index l.functions) ≡ bodies_from 0 l.functions
