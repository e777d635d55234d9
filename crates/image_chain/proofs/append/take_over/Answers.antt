use Rattle.std.proofs.Common.{refl, rules, arith}
use Rattle.image_chain.proofs.StepLaws.{spells_short}
use Rattle.image_chain.proofs.append.take_over.Goals as goal

pub invariant_of-chain : goal.invariant_of-chain
invariant_of-chain c =
    let b = c.args.chain.now.bounds in
    let short = spells_short c.requires.image.0 c.args.image.now c.requires.image.1 in
    record {
      bounds = (omega (arith, b.0), omega (arith, b.1), b.2, search rules);
      some = λ _. rw (c.fields_of-chain.ensures c.requires.image.0 c.requires.image.1) refl;
      none = λ is. absurd (omega (arith, is));
      short = omega (arith, b.0);
    }
