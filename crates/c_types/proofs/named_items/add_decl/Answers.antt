use Rattle.std.proofs.Common.{w64}
use Rattle.std.proofs.lemmas.Int.{to_z-of_z}
use Rattle.c_types.proofs.Forms.{form_sized, form_starts}
use Rattle.c_types.proofs.named_items.add_decl.Goals as goal

pub add_object-requires-clause-sized : goal.add_object-requires-clause-sized
add_object-requires-clause-sized c = rw (c.form_kind-kind.ensures.answer, c.form_cells-length.ensures.answer) (form_sized c.args.file.now c.args.decl.now.form)

pub add_object-requires-clause-first : goal.add_object-requires-clause-first
add_object-requires-clause-first c =
    rw (to_z-of_z w64 c.form_first-first.result (record { sfits = c.form_first-first.type_inv }), c.form_kind-kind.ensures.answer, c.form_first-first.ensures.answer) (form_starts c.args.file.now c.args.decl.now.form)
