use Rattle.std.proofs.Common.{◌∙◌, ℕ, List, arith, sym, ap}
use Rattle.std.specs.Prelude.{slice_set, slice_index, bit_xor}
use Rattle.parity_store.proofs.XorLaws.{xor_start, xor_step, xor_end}
use Rattle.parity_store.proofs.xor.add_slot.Goals as goal

pub bytes-init : goal.bytes-init
bytes-init c = sym (xor_start c.args.sum.now c.args.slot.now)

pub bytes-preserved : goal.bytes-preserved
bytes-preserved c =
    ap (λ (l : List ℕ). slice_set l c.bytes.i (bit_xor (slice_index l c.bytes.i) (slice_index c.args.slot.now c.bytes.i))) c.bytes.invariant
    ∙ xor_step c.args.sum.now c.args.slot.now c.bytes.i c.requires.size c.bytes-test.true

pub returns : goal.returns
returns c =
    let done = c.bytes.auto.i-end in
    record { answer = c.bytes.invariant ∙ xor_end c.args.sum.now c.args.slot.now c.bytes.i c.requires.size (omega arith) }
