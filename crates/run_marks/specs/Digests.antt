-- The digests of a source and of an input.
use Rattle.std.specs.Prelude.{ℕ, List}
use Rattle.sha2.specs.Sha256.{sha256}
use Rattle.image_format.specs.declared.fields.Marks.{Marks}

abbrev pub digests_of : (source input : List ℕ) → Marks
digests_of source input = record { source = sha256 source; input = sha256 input }
