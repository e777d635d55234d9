use Rattle.std.proofs.Common.{rules, arith}
use Rattle.image_chain.proofs.StepLaws.{spells_short}
use Rattle.image_chain.proofs.ReplaceLaws.{one_span}
use Rattle.image_chain.proofs.replace.stand_on_other.Goals as goal

pub invariant_of-chain : goal.invariant_of-chain
invariant_of-chain c =
    let b = c.args.chain.now.bounds in
    let least = c.requires.sound.max_least in
    let short = spells_short c.requires.image.0 c.args.image.now c.requires.image.1 in
    let count = c.requires.records in
    record {
      bounds = (omega (arith, short), omega (arith, least), b.2, search rules);
      some = λ _. c.args.chain.now.some (omega (arith, count));
      none = λ is. absurd (omega (arith, is));
      short = omega arith;
    }

pub returns-clause-spans : goal.returns-clause-spans
returns-clause-spans c = one_span c.args.chain.now.spans _ c.args.chain.now.bounds.3
