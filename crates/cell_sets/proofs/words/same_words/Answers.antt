use Rattle.std.proofs.Common.{arith, refl}
use Rattle.std.proofs.lemmas.Bool.{false≢true}
use Rattle.cell_sets.proofs.BitLaws.{word_from_bits, bits_from_words}
use Rattle.cell_sets.proofs.words.same_words.Goals as goal

pub returns : goal.returns
returns c = (λ _. bits_from_words c.args.words.now c.args.other.now c.requires (λ k l. c.words.invariant k (omega arith)), λ _. refl)

pub returns-then-words-i : goal.returns-then-words-i
returns-then-words-i c = (
  λ t. absurd (false≢true t),
  λ h. absurd (c.if-words-i.true (word_from_bits c.args.words.now c.args.other.now c.words.i
      (let f = c.type_inv.words c.words.i in omega (arith, f.fits)) (let f = c.type_inv.other c.words.i in omega (arith, f.fits)) h)),
)
