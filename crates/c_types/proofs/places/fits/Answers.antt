use Rattle.c_types.proofs.places.fits.Goals as goal

pub returns-in-Ok-fitting-clause-kept : goal.returns-in-Ok-fitting-clause-kept
returns-in-Ok-fitting-clause-kept c w f = c.in-Ok-fitting.ensures.kept w (c.in-Ok.ensures.kept w f.known f.variables)
