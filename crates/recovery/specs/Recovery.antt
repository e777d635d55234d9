-- Which chain is recovered, and why another is not.
use Rattle.std.specs.Prelude.{◌≡◌, ◌≢◌}
use Rattle.image_format.specs.declared.fields.Fields.{Fields}
use Rattle.image_format.specs.declared.fields.Marks.{Marks}
use Rattle.image_chain.specs.ChainView.{ChainView}
use Rattle.image_chain.specs.Memory.{Joined}
use Rattle.recovery.specs.declared.shape.Shape.{Shape}
use Rattle.recovery.specs.declared.fault.RecoverFault.{RecoverFault}
use Rattle.recovery.specs.declared.fault.RecoverFault.TheVariants.{OtherSource, OtherInput, Damaged}
use Rattle.recovery.specs.Fit.{ListsOnly, Fits, IsDamagedAt}

-- A chain with this newest record is recovered: it is of the source and the input, and it fits the program.
pub record Accepts (k : Joined) (s : Shape) (marks : Marks) (newest : Fields) : Type 0 where
  pub same : newest.marks ≡ marks
  pub cells : ListsOnly s.cells k
  pub fields : Fits s newest

-- Why it is not: the newest record has another digest of the source, or else another one of the input, or else the chain does not fit the program.
abbrev pub Refuses : RecoverFault → ChainView → Joined → Shape → Marks → Fields → Type 0
Refuses (OtherSource kept given) chain k s marks newest = (kept ≡ newest.marks.source) × (given ≡ marks.source) × (kept ≢ given)
Refuses (OtherInput kept given) chain k s marks newest = (newest.marks.source ≡ marks.source) × (kept ≡ newest.marks.input) × (given ≡ marks.input) × (kept ≢ given)
Refuses (Damaged file place) chain k s marks newest = (newest.marks ≡ marks) × (file ≡ chain.current.file) × IsDamagedAt place chain k s newest
