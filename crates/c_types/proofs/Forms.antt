-- What declarations of the file make has its cells, and starts as it may.
use Rattle.std.proofs.Common.{◌≡◌, ℕ, ◌≤◌, max, true, refl, arith}
use Rattle.std.specs.Prelude.{nat_le}
use Rattle.std.proofs.lemmas.Bool.Decides.{nat_tests}
use Rattle.c_tree.specs.declared.tree.ObjectForm.{ObjectForm}
use Rattle.c_tree.specs.declared.tree.ObjectForm.TheVariants as form
use Rattle.c_tree.specs.Checked.{has_cells, starts_rightly}
use Rattle.c_types.specs.File.{File}
use Rattle.c_types.specs.FileNames.{form_kind, form_length, form_cells, form_first}

some_cells : (n : ℕ) → nat_le 1 (max n 1) ≡ true
some_cells n = grind (arith, nat_tests)

pub form_sized : (file : File) (f : ObjectForm) → has_cells (form_kind f) (form_cells file f) ≡ true
form_sized file form.Number = refl
form_sized file (form.Started minus l) = refl
form_sized file (form.Array l) = some_cells (form_length file (form.Array l))
form_sized file form.Pointer = refl

pub form_starts : (file : File) (f : ObjectForm) → starts_rightly (form_kind f) (form_first file f) ≡ true
form_starts file form.Number = refl
form_starts file (form.Started minus l) = refl
form_starts file (form.Array l) = refl
form_starts file form.Pointer = refl
