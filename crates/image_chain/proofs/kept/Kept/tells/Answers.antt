use Rattle.std.proofs.Common.{◌∙◌, ap, sym}
use Rattle.image_chain.specs.Memory.{Joined, kept_word}
use Rattle.image_chain.proofs.KeptLaws.{none_past}
use Rattle.image_chain.proofs.kept.Kept.tells.Goals as goal

pub returns : goal.returns
returns c = record { none = λ k past. ap (λ (j : Joined). kept_word j k) (sym c.self.view_is) ∙ none_past c.self.inside.words c.self.inside.listed.items 262144 k (sym c.self.inside.listed.ok.0 ∙ c.self.invariant.1) past }
