use Rattle.image_chain.proofs.BesideLaws.{rest_beside, due_beside}
use Rattle.image_chain.proofs.chain.Chain.stays_beside.Goals as goal

pub returns-clause-rests : goal.returns-clause-rests
returns-clause-rests g c = λ before rs same rests. (rests.0, (rests.1.0, rest_beside c.args.self.now.current _ _ rs rests.1.0 same rests.1.1))

pub returns-clause-due : goal.returns-clause-due
returns-clause-due g c = λ before rs image at same due. due_beside c.args.self.now.current _ _ rs image at same due
