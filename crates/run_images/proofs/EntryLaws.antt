-- What a resumed life holds before its first instruction.
use Rattle.std.proofs.Common.{◌≡◌, sym, ◌∙◌, ap, subst, ℕ, ◌<◌, List, length, take, Option, Some, None, arith}
use Rattle.std.specs.Prelude.{slice_index, unwrap_or}
use Rattle.std.proofs.lemmas.List.{take-take}
use Rattle.page_frames.specs.Words.{fill_word}
use Rattle.path_laws.specs.Forgettable.{IsForgettable}
use Rattle.image_format.specs.declared.fields.Fields.{Fields}
use Rattle.image_format.specs.Image.{Image}
use Rattle.image_chain.specs.Memory.{memory}
use Rattle.image_chain.specs.Records.{newest_of}
use Rattle.run_images.specs.Images.{Taking}
use Rattle.run_images.specs.JoinedList.{IsJoinedList}
use Rattle.run_images.specs.Source.{Source, IsSource, run_of, output_of, images_of}
use Rattle.run_images.specs.Hold.{HoldUnwritten}
use Rattle.run_images.specs.Stands.{StandsFor}
use Rattle.run_images.specs.Compiled.{CompiledView, IsCompiled}
use Rattle.run_images.specs.Origin.{Origin, IsResumedAt}
use Rattle.run_images.proofs.CodeRuns.{RunLaws, CodeLaws}
use Rattle.run_images.proofs.AlikeLaws.{cells_are, output_is}

same_field : (o : Option Fields) (x y : Fields) → o ≡ Some x → o ≡ Some y → x ≡ y
same_field o x y a b = cc

module _ (s : Source) (c : CompiledView) (every fill : ℕ) (rs : List Image) (file : List ℕ) (o : Origin) (compiled : IsCompiled s c) (stands : StandsFor s every rs file) (at : IsResumedAt c s.marks every fill s.input rs file o) where
  newest_same : at.newest ≡ stands.newest
  newest_same = same_field (newest_of None rs) at.newest stands.newest at.newest_is stands.newest_is

  pub entry_held : HoldUnwritten s o.since rs o.memory
  entry_held f k newest lt fresh kept =
      let f_is : f ≡ stands.newest = same_field (newest_of None rs) f stands.newest newest stands.newest_is in
      let run : memory rs k ≡ Some (slice_index (run_of s stands.newest.steps).memory k) = stands.words k lt (subst (λ (x : Fields). IsForgettable s.graph k x.node → ⊥) f_is kept) in
      let own = at.words k (subst (λ n. k < n) (sym (cells_are s c compiled)) lt) ∙ ap (λ (w : Option ℕ). unwrap_or w (fill_word fill)) run in
      run ∙ ap (λ (w : ℕ). Some w) (sym own)

  pub entry_stands : RunLaws → CodeLaws → IsSource s → StandsFor s o.taking.every rs o.output
  entry_stands laws codes is =
      let out = output_of s stands.newest.steps in
      let long : stands.newest.output_length ≡ length out = output_is laws s is c.code compiled.code codes every rs file stands in
      record {
        newest = stands.newest;
        newest_is = stands.newest_is;
        joined = subst (λ e. IsJoinedList rs (images_of s e stands.newest.steps)) (sym (ap (λ (t : Taking). t.every) at.taking)) stands.joined;
        begins = ap (take (length out)) (at.output ∙ ap (λ (x : Fields). take x.output_length file) newest_same) ∙ take-take (length out) stands.newest.output_length file (omega (arith, long)) ∙ stands.begins;
        words = stands.words;
        spaced = ap (λ (t : Taking). s.spaced t.every) at.taking ∙ stands.spaced;
      }
