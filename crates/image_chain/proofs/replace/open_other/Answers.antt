use Rattle.image_chain.proofs.ReplaceLaws.{gate_inside, open_moments, opened}
use Rattle.image_chain.proofs.OutputLaws.{beside_output}
use Rattle.image_chain.proofs.replace.open_other.Goals as goal

pub write_at-requires : goal.write_at-requires
write_at-requires g c = record { within = λ tells. let s = c.requires.stands tells in gate_inside c.args.chain.now _ c.args.image.now _ s.0 c.beside.ensures s.1 }

pub returns-in_err-write_at-clause-any_moment : goal.returns-in_err-write_at-clause-any_moment
returns-in_err-write_at-clause-any_moment g c = λ tells rs r spells whole.
    open_moments c.args.chain.now _ c.args.image.now c.write_at.result _ _ rs r c.beside.ensures c.write_at.ensures.answer tells (g.met.D.Disk.lawful c.args.disk.now tells) whole spells c.requires.records (c.requires.newest r spells)

pub returns-clause-answer : goal.returns-clause-answer
returns-clause-answer g c = λ tells rs whole.
    opened c.args.chain.now _ c.args.image.now _ _ rs c.beside.ensures (c.in_ok-write_at.ensures.answer.does tells) whole

pub returns-clause-any_moment : goal.returns-clause-any_moment
returns-clause-any_moment g c = λ tells rs r spells whole.
    open_moments c.args.chain.now _ c.args.image.now c.write_at.result _ _ rs r c.beside.ensures c.write_at.ensures.answer tells (g.met.D.Disk.lawful c.args.disk.now tells) whole spells c.requires.records (c.requires.newest r spells)

pub returns-in_err-write_at-clause-output : goal.returns-in_err-write_at-clause-output
returns-in_err-write_at-clause-output g c = λ tells. beside_output c.args.chain.now _ _ c.write_at.result _ _ c.beside.ensures tells c.write_at.ensures.answer

pub returns-clause-output : goal.returns-clause-output
returns-clause-output g c = λ tells. beside_output c.args.chain.now _ _ c.write_at.result _ _ c.beside.ensures tells c.write_at.ensures.answer
