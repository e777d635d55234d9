-- A life whose machine is given an input value, and one that executes a directive.
use Rattle.std.proofs.Common.{◌≡◌, refl, sym, ◌∙◌, ap, subst, ℕ, zero, suc, ◌+◌, ◌-◌, ◌^◌, ◌≤◌, ◌<◌, false, List, [], ◌∷◌, ◌++◌, length, take, drop, append_assoc, append-nil, Some, arith}
use Rattle.std.specs.Prelude.{slice_get, get_or}
use Rattle.std.proofs.lemmas.List.{drop-drop}
use Rattle.ckpt_base.specs.Event.{Event, Took, Excluded}
use Rattle.machine_code.specs.declared.instr.Instr.TheVariants.{In}
use Rattle.machine_code.specs.CodeView.{CodeView}
use Rattle.machine_code.specs.State.{given}
use Rattle.machine_code.specs.Run.{World, world, fed, Reaches}
use Rattle.machine_code.proofs.RunLaws.{reaches_fed}
use Rattle.paged_machine.specs.MachineView.{MachineView}
use Rattle.paged_machine.specs.Standing.{StandsIn}
use Rattle.run_images.specs.Since.{Since, with_event, is_page_fresh}
use Rattle.run_images.specs.Origin.{Origin, origin_world}
use Rattle.run_images.proofs.ImageLaws.{since_more}
use Rattle.ckpt_runner.specs.declared.progress.Progress.{Progress}
use Rattle.ckpt_runner.specs.LifeView.{LifeView}
use Rattle.ckpt_runner.specs.Lives.{since_now, progress_in, world_now, HasServed, Lives}
use Rattle.ckpt_runner.specs.Serving.{next_taken}
use Rattle.ckpt_runner.specs.SoundLife.{IsSoundLife}
use Rattle.ckpt_runner.proofs.ServedLaws.{shown_served}
use Rattle.ckpt_runner.proofs.SoundLaws.{excluded_sound}

-- ---- an input value

pub drop_none : (xs : List ℕ) (k : ℕ) → length xs ≤ k → drop k xs ≡ []
drop_none [] zero past = refl
drop_none [] (suc k) past = refl
drop_none (x ∷ xs) zero past = absurd (omega (arith, past))
drop_none (x ∷ xs) (suc k) past = drop_none xs k (omega (arith, past))

pub drop_some : (xs : List ℕ) (k b other : ℕ) → k < length xs → b ≡ get_or xs k other → drop k xs ≡ b ∷ drop 1 (drop k xs)
drop_some [] k b other within e = absurd (omega (arith, within))
drop_some (x ∷ xs) zero b other within e = ap (λ (y : ℕ). y ∷ xs) (sym e)
drop_some (x ∷ xs) (suc k) b other within e = drop_some xs k b other (omega (arith, within)) e

-- the life whose machine was given a value, with so many bytes of the input taken
abbrev pub gave : LifeView → ℕ → ℕ → LifeView
gave life v place = record life { machine = record life.machine { state = given life.machine.state 0 v }; progress = record life.progress { input_place = place } }

pub end_lives : (o : Origin) (es : List Event) (life : LifeView) (v : ℕ) → drop life.progress.input_place life.input ≡ [] → v ≡ 2 ^ 64 - 1 → slice_get life.compiled.code.instrs life.machine.state.place ≡ Some In → Lives o es life
    → Lives o (es ++ next_taken (drop life.progress.input_place life.input)) (gave life v life.progress.input_place)
end_lives o es life v none is asked h =
    let new : LifeView = gave life (2 ^ 64 - 1) life.progress.input_place in
    let stays : Lives o es new = record {
      code = h.code;
      taking = h.taking;
      reaches = λ before.
          let w : World = world_now o life (before ++ (es ++ [])) in
          let asks = subst (λ (c : CodeView). slice_get c.instrs life.machine.state.place ≡ Some In) h.code asked in
          let there : Reaches o.code (origin_world o before) (fed w w.input) = reaches_fed o.code (origin_world o before) w asks (h.reaches before) in
          let same : fed w w.input ≡ world_now o new (before ++ (es ++ [])) = ap (fed w) none in
          subst (Reaches o.code (origin_world o before)) same there;
      progress = h.progress;
      output_length = h.output_length;
      pages = h.pages;
    } in
    let none_shown : es ≡ es ++ next_taken (drop life.progress.input_place life.input) = sym (append-nil es) ∙ ap (λ (l : List ℕ). es ++ next_taken l) (sym none) in
    subst (λ (l : List Event). Lives o l (gave life v life.progress.input_place)) none_shown (subst (λ (n : ℕ). Lives o es (gave life n life.progress.input_place)) (sym is) stays)

pub byte_lives : (o : Origin) (es : List Event) (life : LifeView) (v b : ℕ) → life.progress.input_place < length life.input → b ≡ get_or life.input life.progress.input_place b → v ≡ b → slice_get life.compiled.code.instrs life.machine.state.place ≡ Some In → Lives o es life
    → Lives o (es ++ next_taken (drop life.progress.input_place life.input)) (gave life v (life.progress.input_place + 1))
byte_lives o es life v b within at is asked h =
    let place : ℕ = life.progress.input_place in
    let bs : List ℕ = drop 1 (drop place life.input) in
    let left : drop place life.input ≡ b ∷ bs = drop_some life.input place b b within at in
    let rest : bs ≡ drop (place + 1) life.input = drop-drop 1 place life.input in
    let new : LifeView = gave life b (place + 1) in
    let now = since_more o.taking.every es (Took ∷ []) o.since in
    let took : Lives o (es ++ Took ∷ []) new = record {
      code = h.code;
      taking = h.taking;
      reaches = λ before.
          let was : List Event = before ++ (es ++ []) in
          let w : World = world_now o life was in
          let asks = subst (λ (c : CodeView). slice_get c.instrs life.machine.state.place ≡ Some In) h.code asked in
          let there : Reaches o.code (origin_world o before) (fed w w.input) = reaches_fed o.code (origin_world o before) w asks (h.reaches before) in
          let events : was ++ Took ∷ [] ≡ before ++ ((es ++ Took ∷ []) ++ []) =
          ap (λ (l : List Event). (before ++ l) ++ Took ∷ []) (append-nil es) ∙ append_assoc before es (Took ∷ []) ∙ ap (λ (l : List Event). before ++ l) (sym (append-nil (es ++ Took ∷ []))) in
          let same : fed w w.input ≡ world_now o new (before ++ ((es ++ Took ∷ []) ++ [])) =
          ap (fed w) left ∙ ap (λ (l : List ℕ). world (given life.machine.state 0 b) (take o.taking.cells life.frames) l (was ++ Took ∷ [])) rest ∙ ap (λ (l : List Event). world_now o new l) events in
          subst (Reaches o.code (origin_world o before)) same there;
      progress = ap (λ (p : Progress). record p { input_place = p.input_place + 1 }) h.progress ∙ sym (ap progress_in now);
      output_length = h.output_length ∙ sym (ap (λ (s : Since). s.output_length) now);
      pages = λ page within. h.pages page within ∙ sym (ap (λ (s : Since). is_page_fresh s page) now);
    } in
    let shown : es ++ Took ∷ [] ≡ es ++ next_taken (drop place life.input) = ap (λ (l : List ℕ). es ++ next_taken l) (sym left) in
    subst (λ (l : List Event). Lives o l (gave life v (place + 1))) shown (subst (λ (n : ℕ). Lives o (es ++ Took ∷ []) (gave life n (place + 1))) (sym is) took)

pub gave_sound : (life : LifeView) (m : MachineView) (place : ℕ) → IsSoundLife life → StandsIn life.compiled.code m → life.progress.input_place ≤ place → place ≤ length life.input
    → IsSoundLife (record life { machine = m; progress = record life.progress { input_place = place } })
gave_sound life m place s stands rises within = record {
  runs = s.runs;
  stands = stands;
  fit = s.fit;
  cells = s.cells;
  copies = s.copies;
  marks = s.marks;
  none = s.none;
  directive = s.directive;
  short = s.short;
  taken = within;
  whole = s.whole;
  none_yet = s.none_yet;
  newest = λ live f is. let b = s.newest live f is in record { marks = b.marks; number = b.number; steps = b.steps; input_place = let le = b.input_place in omega (arith, le, rises); output_length = b.output_length };
}

pub end_given : (o : Origin) (es : List Event) (life : LifeView) (m : MachineView) (v : ℕ) → m ≡ record life.machine { state = given life.machine.state 0 v } → v ≡ 2 ^ 64 - 1 → length life.input ≤ life.progress.input_place
    → slice_get life.compiled.code.instrs life.machine.state.place ≡ Some In → Lives o es life → Lives o (es ++ next_taken (drop life.progress.input_place life.input)) (record life { machine = m })
end_given o es life m v exact is at asked h =
    subst (λ (x : MachineView). Lives o (es ++ next_taken (drop life.progress.input_place life.input)) (record life { machine = x })) (sym exact) (end_lives o es life v (drop_none life.input life.progress.input_place at) is asked h)

pub byte_given : (o : Origin) (es : List Event) (life : LifeView) (m : MachineView) (v b : ℕ) → m ≡ record life.machine { state = given life.machine.state 0 v } → v ≡ b → life.progress.input_place < length life.input → b ≡ get_or life.input life.progress.input_place b
    → slice_get life.compiled.code.instrs life.machine.state.place ≡ Some In → Lives o es life
    → Lives o (es ++ next_taken (drop life.progress.input_place life.input)) (record life { machine = m; progress = record life.progress { input_place = life.progress.input_place + 1 } })
byte_given o es life m v b exact is within at asked h =
    subst (λ (x : MachineView). Lives o (es ++ next_taken (drop life.progress.input_place life.input)) (record life { machine = x; progress = record life.progress { input_place = life.progress.input_place + 1 } })) (sym exact)
    (byte_lives o es life v b within at is asked h)

pub same_input : (o : Origin) (es : List Event) (a b life : LifeView) → a ≡ b → Lives o (es ++ next_taken (drop a.progress.input_place a.input)) life → Lives o (es ++ next_taken (drop b.progress.input_place b.input)) life
same_input o es a b life same h = subst (λ (l : LifeView). Lives o (es ++ next_taken (drop l.progress.input_place l.input)) life) same h

-- ---- a directive

pub executed_sound : (life : LifeView) (new : Progress) (k : ℕ) → new ≡ record life.progress { directive = k; included = false } → k ≤ life.compiled.directives → IsSoundLife life → IsSoundLife (record life { progress = new })
executed_sound life new k is le s = subst (λ (p : Progress). IsSoundLife (record life { progress = p })) (sym is) (excluded_sound life k le s)

-- what counts as of a run that left this
abbrev since_of : Progress → Since
since_of p = record { number = p.number; newest_tick = p.newest_tick; written = []; directive = p.directive; included = p.included; input_place = p.input_place; output_length = 0 }

pub excluded_exact : (old new : Progress) (k : ℕ) → ((every : ℕ) (s : Since) → old ≡ progress_in s → new ≡ progress_in (with_event every (Excluded k) s)) → new ≡ record old { directive = k; included = false }
excluded_exact old new k h = h 0 (since_of old) refl

pub excluded_lives : (o : Origin) (es : List Event) (life : LifeView) (new : Progress) (k : ℕ) → new ≡ record life.progress { directive = k; included = false } → HasServed o es (Excluded k ∷ []) life → Lives o (es ++ Excluded k ∷ []) (record life { progress = new })
excluded_lives o es life new k is h =
    let s = since_now o es in
    let was : life.progress ≡ progress_in s = h.progress in
    shown_served o es (Excluded k ∷ []) life (record life { progress = new }) h refl h.taking refl refl refl (ap (λ (p : Progress). p.input_place) is)
    (is ∙ ap (λ (p : Progress). record p { directive = k; included = false }) was) h.output_length h.pages
