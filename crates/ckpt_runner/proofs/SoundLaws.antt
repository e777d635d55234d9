-- What a life keeps of itself goes on.
use Rattle.std.proofs.Common.{◌≡◌, ◌≢◌, refl, sym, ◌∙◌, ap, subst, ℕ, ◌≤◌, Bool, true, false, List, length, arith}
use Rattle.std.specs.Prelude.{slice_set}
use Rattle.std.proofs.lemmas.List.{length-set}
use Rattle.dirty_pages.specs.Pages.{PageStates, in_snapshot, served}
use Rattle.image_chain.specs.ChainView.{ChainView}
use Rattle.output_file.specs.Pushed.{Pushed, length_of, flushed}
use Rattle.paged_machine.specs.MachineView.{MachineView}
use Rattle.paged_machine.specs.Fitting.{FitTogether}
use Rattle.paged_machine.specs.Standing.{StandsIn}
use Rattle.life_journal.specs.declared.journal.JournalState.{JournalState}
use Rattle.life_journal.specs.declared.journal.JournalState.TheVariants.{Resting, Spent}
use Rattle.life_journal.specs.JournalView.{JournalView}
use Rattle.run_images.specs.Compiled.{cells_in}
use Rattle.ckpt_runner.specs.LifeView.{LifeView}
use Rattle.ckpt_runner.specs.SoundLife.{IsSoundLife}

-- a journal that rests has not failed
pub rests_whole : (s : JournalState) → s ≡ Resting → s ≢ Spent
rests_whole s rests spent = spent_not (sym rests ∙ spent)
  where
    spent_not : Resting ≡ Spent → ⊥
    spent_not e = cc

not_set : (b : Bool) → (b ≡ true → false ≡ true) → b ≡ false
not_set true h = sym (h refl)
not_set false h = refl

-- a run of instructions
pub moved_sound : (life : LifeView) (m : MachineView) (n copies : List ℕ) (pages : PageStates) → IsSoundLife life → StandsIn life.compiled.code m → FitTogether life.compiled.code n pages → length copies ≡ length n → length pages.dirty ≡ length life.pages.dirty
    → length pages.in_snapshot ≡ length life.pages.in_snapshot → ((p : ℕ) → in_snapshot pages p ≡ true → in_snapshot life.pages p ≡ true) → IsSoundLife (record life { machine = m; frames = n; copies = copies; pages = pages })
moved_sound life m n copies pages s stands fit room same marks fewer =
    let size : length n ≡ length life.frames = let a = fit.same in let b = s.fit.same in omega (arith, a, b, same) in
    record {
      runs = s.runs;
      stands = stands;
      fit = fit;
      cells = subst (λ (k : ℕ). cells_in life.compiled ≤ k) (sym size) s.cells;
      copies = room;
      marks = marks ∙ s.marks ∙ sym same;
      none = λ p. not_set (in_snapshot pages p) (λ e. sym (s.none p) ∙ fewer p e);
      directive = s.directive;
      short = s.short;
      taken = s.taken;
      whole = s.whole;
      none_yet = s.none_yet;
      newest = λ live f is. let b = s.newest live f is in record { marks = b.marks; number = b.number; steps = b.steps; input_place = b.input_place; output_length = b.output_length };
    }

-- a journal whose chain is as it was, and whose output is no shorter
pub journal_sound : (life : LifeView) (j : JournalView) → IsSoundLife life → j.chain ≡ life.journal.chain → (life.failed ≡ false → j.state ≡ Resting) → length_of life.journal.output ≤ length_of j.output → IsSoundLife (record life { journal = j })
journal_sound life j s chain whole longer = record {
  runs = s.runs;
  stands = s.stands;
  fit = s.fit;
  cells = s.cells;
  copies = s.copies;
  marks = s.marks;
  none = s.none;
  directive = s.directive;
  short = s.short;
  taken = s.taken;
  whole = whole;
  none_yet = λ live none. s.none_yet live (sym (ap (λ (x : ChainView). x.current.newest) chain) ∙ none);
  newest = λ live f is.
      let b = s.newest live f (sym (ap (λ (x : ChainView). x.current.newest) chain) ∙ is) in
      record { marks = b.marks; number = b.number; steps = b.steps; input_place = b.input_place; output_length = let le = b.output_length in omega (arith, le, longer) };
}

-- a life that has failed keeps nothing of its journal
pub failed_sound : (life : LifeView) (j : JournalView) (finished : Bool) → IsSoundLife life → IsSoundLife (record life { journal = j; failed = true; finished = finished })
failed_sound life j finished s = record {
  runs = s.runs;
  stands = s.stands;
  fit = s.fit;
  cells = s.cells;
  copies = s.copies;
  marks = s.marks;
  none = s.none;
  directive = s.directive;
  short = s.short;
  taken = s.taken;
  whole = λ e. absurd (let z : true ≡ false = e in cc);
  none_yet = λ e. absurd (let z : true ≡ false = e in cc);
  newest = λ e. absurd (let z : true ≡ false = e in cc);
}

pub flushed_length : (o : Pushed) → length_of (flushed o) ≡ length_of o
flushed_length o = omega arith

pub finished_sound : (life : LifeView) → IsSoundLife life → IsSoundLife (record life { finished = true })
finished_sound life s = record {
  runs = s.runs;
  stands = s.stands;
  fit = s.fit;
  cells = s.cells;
  copies = s.copies;
  marks = s.marks;
  none = s.none;
  directive = s.directive;
  short = s.short;
  taken = s.taken;
  whole = s.whole;
  none_yet = s.none_yet;
  newest = λ live f is. let b = s.newest live f is in record { marks = b.marks; number = b.number; steps = b.steps; input_place = b.input_place; output_length = b.output_length };
}

-- pages of which one was served
pub served_sound : (life : LifeView) (p : ℕ) → IsSoundLife life → IsSoundLife (record life { pages = served life.pages p })
served_sound life p s =
    let size : length (slice_set life.pages.dirty p true) ≡ length life.pages.dirty = length-set life.pages.dirty p true in
    record {
      runs = s.runs;
      stands = s.stands;
      fit = record { same = let e = s.fit.same in omega (arith, e, size); few = let le = s.fit.few in omega (arith, le, size); cells = s.fit.cells };
      cells = s.cells;
      copies = s.copies;
      marks = s.marks ∙ sym size;
      none = s.none;
      directive = s.directive;
      short = s.short;
      taken = s.taken;
      whole = s.whole;
      none_yet = s.none_yet;
      newest = λ live f is. let b = s.newest live f is in record { marks = b.marks; number = b.number; steps = b.steps; input_place = b.input_place; output_length = b.output_length };
    }

-- a directive that the program has
pub excluded_sound : (life : LifeView) (k : ℕ) → k ≤ life.compiled.directives → IsSoundLife life → IsSoundLife (record life { progress = record life.progress { directive = k; included = false } })
excluded_sound life k le s = record {
  runs = s.runs;
  stands = s.stands;
  fit = s.fit;
  cells = s.cells;
  copies = s.copies;
  marks = s.marks;
  none = s.none;
  directive = le;
  short = s.short;
  taken = s.taken;
  whole = s.whole;
  none_yet = s.none_yet;
  newest = λ live f is. let b = s.newest live f is in record { marks = b.marks; number = b.number; steps = b.steps; input_place = b.input_place; output_length = b.output_length };
}

-- a life that was finished
pub ended_sound : (life : LifeView) (j : JournalView) → life.failed ≡ false → IsSoundLife life → j.chain ≡ life.journal.chain → j.state ≡ Resting → length_of life.journal.output ≤ length_of j.output → IsSoundLife (record life { journal = j; failed = false; finished = true })
ended_sound life j live s chain whole longer =
    journal_sound (record life { failed = false; finished = true }) j (finished_sound (record life { failed = false }) (subst (λ (b : Bool). IsSoundLife (record life { failed = b })) live s)) chain (λ _. whole) longer
