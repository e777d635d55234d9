use Rattle.std.proofs.Common.{sym, ◌∙◌, ap}
use Rattle.c_tree.specs.Checked.{has_address}
use Rattle.c_types.proofs.KindLaws.{object_kind}
use Rattle.c_types.proofs.expressions.object.Goals as goal

pub returns-in-Array-clause-kept : goal.returns-in-Array-clause-kept
returns-in-Array-clause-kept c w fits =
    object_kind w c.args.number (fits.addresses c.args.number c.in-Some.o.now (sym c.in-Some.ensures.answer) ∙ ap has_address c.in-Array.is)
