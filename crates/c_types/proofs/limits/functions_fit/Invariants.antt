use Rattle.std.proofs.Common.{◌≡◌, true, take}
use Rattle.std.specs.Prelude.{nat_lt}
use Rattle.std.specs.List.{list_all}
use Rattle.c_tree.specs.Nodes.{node_count}
use Rattle.c_types.proofs.limits.functions_fit.Given as goal

abbrev pub invariant-loop-f : goal.invariant-loop-f
invariant-loop-f l = list_all (λ f. nat_lt (node_count f.body) 4294967295) (take l.f-index l.functions) ≡ true
