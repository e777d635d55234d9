use Rattle.std.proofs.Common.{sym, ◌∙◌, ap}
use Rattle.c_tree.specs.Checked.{has_address}
use Rattle.c_types.proofs.KindLaws.{object_kind}
use Rattle.c_types.proofs.expressions.address_of.Goals as goal

pub returns-in-Number-clause-kept : goal.returns-in-Number-clause-kept
returns-in-Number-clause-kept c w fits =
    object_kind w c.args.number (fits.addresses c.args.number c.in-Some.o.now (sym c.in-Some.ensures.answer) ∙ ap has_address c.in-Number.is)
