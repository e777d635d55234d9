-- How opening a store that stands for what was given may be refused.
use Rattle.std.proofs.Common.{◌≡◌, sym, ◌∙◌, ap, subst, inl, inr, ℕ, length, Option, None, Result, Ok, Err, arith}
use Rattle.std.specs.Prelude.{IsSome}
use Rattle.std.proofs.lemmas.Bool.{false≢true}
use Rattle.disk_model.specs.Store.{Store}
use Rattle.image_format.specs.declared.fields.Fields.{Fields}
use Rattle.image_format.specs.declared.fields.Marks.{Marks}
use Rattle.image_chain.specs.Records.{Damage, Found, chain_in}
use Rattle.run_images.specs.Compiled.{CompiledView}
use Rattle.run_images.specs.Source.{Source}
use Rattle.run_images.specs.Stands.{Stands}
use Rattle.ckpt_runner.specs.declared.how.Mode.TheVariants.{Restart}
use Rattle.ckpt_runner.specs.declared.started.OpenFault.{OpenFault}
use Rattle.ckpt_runner.specs.declared.started.OpenFault.TheVariants.{Memory, Failed, Damaged, Occupied, OtherSource, OtherInput, Behind}
use Rattle.ckpt_runner.specs.Opening.{Given, HasChain, IsAccepted, Refuses}
use Rattle.ckpt_runner.specs.Standing.{IsGivenSource}
use Rattle.ckpt_runner.specs.Unfit.{Fits, IsUnfit, IsUnfitField}
use Rattle.accepted_stores.specs.Accepted.{MayRefuse}
use Rattle.accepted_stores.proofs.FitLaws.{ProgramLaws, chain_fits}
use Rattle.accepted_stores.proofs.NewestLaws.{marks_are}
use Rattle.accepted_stores.proofs.WholeLaws.{standing_whole}

-- ---- a chain that fits has no place that does not

no_word : (o : Option ℕ) → o ≡ None → IsSome o → ⊥
no_word o none some = false≢true (subst IsSome none some)

no_unfit_field : (place : ℕ) (c : CompiledView) (taken written : ℕ) (found : Found) (f : Fields) → Fits c taken written found f → IsUnfitField place c taken written f → ⊥
no_unfit_field place c taken written found f fits (inl node) = node.1 fits.node
no_unfit_field place c taken written found f fits (inr (inl input)) = let le = fits.input_place in omega (arith, le, input.2)
no_unfit_field place c taken written found f fits (inr (inr (inl output))) = let le = fits.output_length in omega (arith, le, output.3)
no_unfit_field place c taken written found f fits (inr (inr (inr directive))) = let le = fits.directive in omega (arith, le, directive.4)

no_unfit : (place : ℕ) (c : CompiledView) (taken written : ℕ) (found : Found) (f : Fields) → Fits c taken written found f → IsUnfit place c taken written found f → ⊥
no_unfit place c taken written found f fits (inl cells) = let past = cells.0 in no_word _ (fits.cells past.0 past.1) past.2
no_unfit place c taken written found f fits (inr field) = no_unfit_field field.1.0 c taken written found f fits field.1.3

-- ---- what is left

no_damage : (x : Result (Option Found) Damage) (found : Option Found) (damage : Damage) → x ≡ Ok found → x ≡ Err damage → ⊥
no_damage x found damage ok err = cc

module _ (laws : ProgramLaws) (g : Given) (s : Source) (c : Store) (given : IsGivenSource g s) (stands : Stands s c) where
  same_marks : (found : Found) (f : Fields) → HasChain c found f → f.marks ≡ g.marks
  same_marks found f has = marks_are s c found f stands has.chain has.newest_is ∙ given.marks

  pub accepted : (found : Found) (f : Fields) → HasChain c found f → g.mode ≡ Restart → IsAccepted g c found f
  accepted found f has mode = record {
    has = has;
    mode = mode;
    same = same_marks found f has;
    fits = chain_fits laws g s c found given f stands has;
  }

  pub refused_so : (fault : OpenFault) → Refuses fault g c → MayRefuse fault g c
  refused_so Memory r = tt
  refused_so Failed r = tt
  refused_so (Damaged file place) (inl damage) = let whole = standing_whole s c stands in no_damage (chain_in c) whole.0 (record { file = file; place = place }) whole.1 damage
  refused_so (Damaged file place) (inr r) = no_unfit place g.compiled (length g.input) (length c.output) r.0 r.1 (chain_fits laws g s c r.0 given r.1 stands r.2) r.6
  refused_so (Occupied image step) r = r
  refused_so (OtherSource kept now) r = r.6 (r.4 ∙ ap (λ (m : Marks). m.source) (same_marks r.0 r.1 r.2) ∙ sym r.5)
  refused_so (OtherInput kept now) r = r.7 (r.5 ∙ ap (λ (m : Marks). m.input) (same_marks r.0 r.1 r.2) ∙ sym r.6)
  refused_so (Behind bound step) r = let a = r.2 in (r.0, r.1, a.has, a.mode, r.3, r.4, r.5)
