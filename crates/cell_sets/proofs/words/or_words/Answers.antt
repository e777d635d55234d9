use Rattle.std.proofs.Common.{arith, ◌<◌, ◌≡◌, ◌≢◌, ◌∙◌, sym, ap, get_or, below_more, length, bit_or, get_or-set_same, get_or-set_other, inl, inr}
use Rattle.std.proofs.lemmas.Bool.{cases_Bool}
use Rattle.cell_sets.proofs.BitLaws.{or_words, flag_some, flag_none, no_new}
use Rattle.cell_sets.proofs.words.or_words.Goals as goal

pub words-preserved : goal.words-preserved
words-preserved c =
    let v = c.words.invariant in
    let ws = c.words.words in
    let i = c.words.i in
    let here : get_or ws i 0 ≡ get_or c.args.words.now i 0 = v.left i (omega arith) in
    let lt : i < length ws = omega arith in
    record {
      done = below_more _ _ (λ k h. let ne : k ≢ i = omega arith in rw get_or-set_other (v.done k h)) (rw get_or-set_same (ap (λ w. bit_or w (get_or c.args.other.now i 0)) here));
      left = λ k h. let ne : k ≢ i = omega arith in rw get_or-set_other (v.left k (omega arith));
      some = flag_some c.words.added c.args.words.now c.args.other.now i (get_or ws i 0) here (let f = c.type_inv.other i in omega (arith, f.fits)) v.some;
      none = λ h. let p = flag_none c.words.added (get_or c.args.other.now i 0) (get_or ws i 0) h in
          below_more _ _ (λ k l. let ne : k ≢ i = omega arith in rw get_or-set_other (v.none p.0 k l)) (rw get_or-set_same (p.1 ∙ here));
    }

pub returns-clause-all : goal.returns-clause-all
returns-clause-all c = or_words c.args.words.now c.words.words c.args.other.now (λ k l. c.words.invariant.done k (omega arith)) (omega arith) (omega arith)

pub returns-clause-added : goal.returns-clause-added
returns-clause-added c = (
  c.words.invariant.some,
  λ w. elim (cases_Bool c.words.added) [
    | inl on ↦ on
    | inr off ↦ absurd (no_new c.args.words.now c.args.other.now
        (λ q. or_words c.args.words.now c.args.words.now c.args.other.now (λ k l. sym (c.words.invariant.none off k (omega arith)) ∙ c.words.invariant.done k (omega arith)) (omega arith) (omega arith) q) w.0 w.1.0 w.1.1)
  ],
)
