use Rattle.std.proofs.Common.{◌≡◌, map, drop}
use Rattle.c_types.specs.Scope as spec
use Rattle.c_types.proofs.scope.innermost.Given as goal

abbrev pub invariant-loop-block : goal.invariant-loop-block
invariant-loop-block l = spec.or_else (spec.innermost (map (λ b. b.entries) (drop l.block-index l.blocks)) l.name) l.found ≡ spec.innermost (map (λ b. b.entries) l.blocks) l.name
