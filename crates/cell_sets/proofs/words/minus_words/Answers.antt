use Rattle.std.proofs.Common.{arith, ◌<◌, ◌≡◌, ◌≢◌, ap, get_or, below_more, length, bit_and, w64, get_or-set_same, get_or-set_other}
use Rattle.std.specs.Int.{bit_not}
use Rattle.cell_sets.proofs.BitLaws.{minus_words}
use Rattle.cell_sets.proofs.words.minus_words.Goals as goal

pub words-preserved : goal.words-preserved
words-preserved c =
    let v = c.words.invariant in
    let ws = c.words.words in
    let i = c.words.i in
    let here : get_or ws i 0 ≡ get_or c.args.words.now i 0 = v.left i (omega arith) in
    let lt : i < length ws = omega arith in
    record {
      done = below_more _ _ (λ k h. let ne : k ≢ i = omega arith in rw get_or-set_other (v.done k h)) (rw get_or-set_same (ap (λ w. bit_and w (bit_not w64 (get_or c.args.other.now i 0))) here));
      left = λ k h. let ne : k ≢ i = omega arith in rw get_or-set_other (v.left k (omega arith));
    }

pub returns : goal.returns
returns c = record {
  all = minus_words c.args.words.now c.words.words c.args.other.now (λ k l. c.words.invariant.done k (omega arith)) (omega arith) (λ k. let f = c.type_inv.other k in omega (arith, f.fits));
}
