use Rattle.std.proofs.Common.{◌≡◌, ◌++◌, map, drop}
use Rattle.c_types.proofs.named_items.signature.Given as goal

abbrev pub invariant-loop-p : goal.invariant-loop-p
invariant-loop-p l = l.parameters ++ map (λ p. p.is_pointer) (drop l.p-index l.p-items) ≡ map (λ p. p.is_pointer) l.p-items
