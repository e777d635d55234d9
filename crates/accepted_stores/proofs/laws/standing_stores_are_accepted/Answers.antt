use Rattle.accepted_stores.proofs.RefusalLaws.{accepted, refused_so}
use Rattle.accepted_stores.proofs.laws.standing_stores_are_accepted.Goals as goal

pub returns-clause-chain : goal.returns-clause-chain
returns-clause-chain c g s d found newest given stands = accepted
    (record { runs = c.codes_mean_their_programs.ensures.runs; there = c.checkpoints_are_there.ensures.law; directives = c.directives_are_there.ensures.law; exact = c.checkpoints_are_exact.ensures.exact })
    g s d given stands found newest

pub returns-clause-law : goal.returns-clause-law
returns-clause-law c g s d fault given stands = refused_so
    (record { runs = c.codes_mean_their_programs.ensures.runs; there = c.checkpoints_are_there.ensures.law; directives = c.directives_are_there.ensures.law; exact = c.checkpoints_are_exact.ensures.exact })
    g s d given stands fault
