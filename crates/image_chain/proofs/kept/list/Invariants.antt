use Rattle.std.proofs.Common.{◌≡◌, ℕ, length, true, false, cond}
use Rattle.std.specs.Prelude.{slice_index_or}
use Rattle.image_chain.proofs.KeptLaws.{among}
use Rattle.image_chain.proofs.kept.list.Given as goal

abbrev pub invariant-loop-i : goal.invariant-loop-i
invariant-loop-i l = (cell : ℕ) → slice_index_or l.listed cell false ≡ cond (among l.first l.i cell) true (slice_index_or l.fn.listed cell false)
