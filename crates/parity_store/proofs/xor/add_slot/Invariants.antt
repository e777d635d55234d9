use Rattle.std.proofs.Common.{◌≡◌}
use Rattle.parity_store.proofs.XorLaws.{xor_done}
use Rattle.parity_store.proofs.xor.add_slot.Given as goal

abbrev pub invariant-bytes : goal.invariant-bytes
invariant-bytes l = l.sum ≡ xor_done l.i l.fn.sum l.slot
