-- How much of the output the images of a store need.
use Rattle.std.proofs.Common.{◌≡◌, ◌≢◌, sym, ◌∙◌, ap, subst, ℕ, ◌+◌, ◌-◌, ◌≤◌, inl, inr, ⊎_elim, List, ◌++◌, length, Option, Some, None, Ok, arith}
use Rattle.std.proofs.lemmas.List.{length-append, take-take, take-append-le}
use Rattle.ckpt_base.specs.Run.{Run, output}
use Rattle.c_tree.specs.declared.resolved.Resolved.{Resolved}
use Rattle.c_tree.specs.Checked.{IsChecked}
use Rattle.c_tree.specs.State.{first_state}
use Rattle.disk_model.specs.declared.disk_file.DiskFile.{DiskFile}
use Rattle.disk_model.specs.declared.disk_file.DiskFile.TheVariants.{Output}
use Rattle.disk_model.specs.Store.{Store}
use Rattle.image_format.specs.declared.fields.Fields.{Fields}
use Rattle.image_format.specs.declared.header.Header.{Header}
use Rattle.image_format.specs.Image.{Image}
use Rattle.image_chain.specs.Append.{other}
use Rattle.image_chain.specs.Records.{Found, chain_in, newest_of}
use Rattle.machine_code.specs.Run.{next_row, unprotected}
use Rattle.code_maker.specs.ProgramCode.{code_of}
use Rattle.code_maker.specs.CodeMeaning.{world_at, MeansGraphs}
use Rattle.run_images.specs.Source.{Source, IsSource, run_of, output_of}
use Rattle.run_images.specs.Stands.{Stands, StandsFor, StandsWithin, StandWith}
use Rattle.image_chain.specs.Files.{FileLists}
use Rattle.run_images.proofs.Outcomes.{IsFoundIn}
use Rattle.run_images.proofs.StandLaws.{kept_stands}
use Rattle.run_images.proofs.FoundLaws.{found_there, this_or_other, same_lists, other_not}
use Rattle.run_images.proofs.OutputLaws.{front_length}
use Rattle.run_images.proofs.CodeRuns.{RunLaws, CodeLaws, stops_by, run_stopped}
use Rattle.run_images.proofs.AlikeLaws.{source_run, output_is}
use Rattle.run_images.proofs.LifeLaws.{output_both}

-- more bytes, and more of them that last
pub still_stand : (s : Source) (every n m : ℕ) (bytes more : List ℕ) (rs : List Image) → n ≤ m → n ≤ length bytes → StandWith s every n bytes rs → StandWith s every m (bytes ++ more) rs
still_stand s every n m bytes more rs le fits (inl none) = inl none
still_stand s every n m bytes more rs le fits (inr a) =
    let out = output_of s a.newest.steps in
    let k = length out in
    let short : k ≤ n = front_length n out bytes a.begins in
    inr (record {
      newest = a.newest;
      newest_is = a.newest_is;
      joined = a.joined;
      begins = take-take k m (bytes ++ more) (omega (arith, short, le)) ∙ take-append-le k bytes more (omega (arith, short, fits)) ∙ sym (take-take k n bytes short) ∙ a.begins;
      words = a.words;
      spaced = a.spaced;
    })

-- ---- what a store needs that stands

module _ (laws : RunLaws) (means : (p : Resolved) → IsChecked p → MeansGraphs p (code_of p)) (s : Source) (is : IsSource s) where
  -- a longer run has written no less
  output_rises : (t u : ℕ) → t ≤ u → length (output_of s t) ≤ length (output_of s u)
  output_rises t u le =
      let code = code_of s.program in
      let first = world_at 0 (first_state s.program s.input) in
      let early = source_run laws s is code (means s.program is.checked) t in
      let late = source_run laws s is code (means s.program is.checked) u in
      let v = early.0 in
      let at = stops_by v (0 + t) (run_of s t) (next_row code unprotected v.state v.memory).event early.2 in
      let on = laws.passes code first v u (run_of s u) late early.1 (omega (arith, at.ticks, le)) in
      let more = run_stopped laws code v ((0 + u) - v.state.ticks) (run_of s u) on in
      let now : output_of s t ≡ output v.events = ap (λ (r : Run). output r.events) at.is in
      let then' : output_of s u ≡ output v.events ++ output more.more = ap output more.events ∙ output_both v.events more.more in
      omega (arith, ap length now, ap length then', length-append (output v.events) (output more.more))

  pub some_needed : (codes : CodeLaws) (c : Store) (found : Found) (f : Fields) → Stands s c → chain_in c ≡ Ok (Some found) → newest_of None found.records ≡ Some f → StandsWithin s f.output_length c
  some_needed codes c found f stands chain newest = record { stands = stands; within = λ g h rs x image lists here. each g h rs x image lists here }
    where
      it : IsFoundIn c found
      it = found_there c found chain

      stand : StandsFor s found.header.every found.records c.output
      stand = kept_stands s c found stands chain

      same_field : (o : Option Fields) (x y : Fields) → o ≡ Some x → o ≡ Some y → x ≡ y
      same_field o x y a b = cc

      newest_is : stand.newest ≡ f
      newest_is = same_field (newest_of None found.records) stand.newest f stand.newest_is newest

      needed : f.output_length ≡ length (output_of s f.steps)
      needed = subst (λ (y : Fields). y.output_length ≡ length (output_of s y.steps)) newest_is (output_is laws s is (code_of s.program) (means s.program is.checked) codes found.header.every found.records c.output stand)

      enough : (x : Fields) → x.steps ≤ f.steps → length (output_of s x.steps) ≤ f.output_length
      enough x le = omega (arith, output_rises x.steps f.steps le, needed)

      each : (g : DiskFile) (h : Header) (rs : List Image) (x : Fields) → g ≢ Output → FileLists g h rs c → newest_of None rs ≡ Some x → length (output_of s x.steps) ≤ f.output_length
      each g h rs x image lists here = ⊎_elim current aside (this_or_other found.file g it.image_file image)
        where
          current : g ≡ found.file → length (output_of s x.steps) ≤ f.output_length
          current e =
              let same = same_lists found.file h found.header rs found.records c (subst (λ z. FileLists z h rs c) e lists) it.lists in
              let is_f : x ≡ f = same_field (newest_of None found.records) x f (ap (newest_of None) (sym same.1) ∙ here) newest in
              enough x (omega (arith, ap (λ (y : Fields). y.steps) is_f))

          aside : g ≡ other found.file → length (output_of s x.steps) ≤ f.output_length
          aside e =
              let beside = subst (λ z. FileLists z h rs c) e lists in
              enough x (stands.order (other found.file) found.file h found.header rs found.records x f (other_not found.file it.image_file) it.image_file beside it.lists here newest (it.aside h beside.open_in))
