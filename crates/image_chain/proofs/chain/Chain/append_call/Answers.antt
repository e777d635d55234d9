use Rattle.image_chain.proofs.chain.Chain.append_call.Goals as goal

pub returns-in-Ok-clause-makes : goal.returns-in-Ok-clause-makes
returns-in-Ok-clause-makes g c = rw (← c.self.view_is, ← c.in-Ok.is) c.make_step-made.ensures.makes

pub returns-in_default-clause-makes : goal.returns-in_default-clause-makes
returns-in_default-clause-makes g c = rw (← c.self.view_is) c.make_step-made.ensures.makes
