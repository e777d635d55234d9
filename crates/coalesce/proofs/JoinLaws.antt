-- The record that joins records.
use Rattle.std.proofs.Common.{◌≡◌, sym, ◌∙◌, ap, ℕ, List, [], Some}
use Rattle.std.proofs.lemmas.List.{append-nil}
use Rattle.disk_model.specs.View.{View}
use Rattle.image_format.specs.Image.{Image, word_in_runs}
use Rattle.image_format.specs.Spelling.{spelling}
use Rattle.image_format.proofs.RecordLaws.{one_front}
use Rattle.image_chain.specs.ChainView.{ChainView}
use Rattle.image_chain.specs.Append.{Spells}
use Rattle.image_chain.specs.Lists.{Rests}
use Rattle.image_chain.specs.Memory.{Joined, kept_word}
use Rattle.coalesce.specs.Join.{IsContent, Joins}

-- bytes spell one image
pub one_spelled : (a b : Image) (bytes : List ℕ) → Spells a bytes → Spells b bytes → a ≡ b
one_spelled a b bytes spells_a spells_b =
    (one_front a b 0 0 [] [] spells_a.is_image spells_b.is_image (append-nil (spelling a 0) ∙ sym spells_a.bytes_are ∙ spells_b.bytes_are ∙ sym (append-nil (spelling b 0)))).0

pub newest_spelled : (chain : ChainView) (a b : Image) (bytes : List ℕ) → Spells a bytes → chain.current.newest ≡ Some a.fields → Spells b bytes → chain.current.newest ≡ Some b.fields
newest_spelled chain a b bytes spells_a newest spells_b = newest ∙ ap (λ (i : Image). Some i.fields) (one_spelled a b bytes spells_a spells_b)

-- the record of what is kept joins the records
pub content_joins : (chain : ChainView) (v : View) (rs : List Image) (kept : Joined) (image : Image) → Rests chain v rs → IsContent kept rs → chain.current.newest ≡ Some image.fields → ((c : ℕ) → word_in_runs image.runs c ≡ kept_word kept c) → Joins rs image
content_joins chain v rs kept image rests content newest words = record {
  fields = sym rests.1.1.keeps.newest ∙ newest;
  words = λ c. words c ∙ content c;
}
