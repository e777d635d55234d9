use Rattle.std.proofs.Common.{◌≡◌, ℕ, List, Some, length}
use Rattle.std.specs.Prelude.{slice_get, slice_index}
use Rattle.machine_code.specs.declared.instr.Instr.{Instr}
use Rattle.machine_code.specs.Forced.{AreForced, Forward, Known}
use Rattle.machine_code.proofs.depths.depths.Given as goal

abbrev pub invariant-loop-p : goal.invariant-loop-p
invariant-loop-p l = record {
  len : length l.found.items ≡ length l.code.instrs;
  known : (d : List ℕ) → AreForced l.code d → Known l.code l.found.items d l.p;
  quiet : (q : ℕ) → ((p : ℕ) (i : Instr) → slice_get l.code.instrs p ≡ Some i → Forward i p q → ⊥) → slice_index l.found.items q ≡ 0;
}
