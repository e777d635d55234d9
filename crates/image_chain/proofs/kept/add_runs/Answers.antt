use Rattle.std.proofs.Common.{◌≡◌, ◌∙◌, sym, ap, subst, ℕ, List}
use Rattle.std.specs.Option.{option_or}
use Rattle.image_format.specs.Image.{WordRun, AreRuns, word_in_runs}
use Rattle.image_chain.specs.Memory.{joined, kept_word}
use Rattle.image_chain.proofs.KeptLaws.{next_run}
use Rattle.image_chain.proofs.kept.add_runs.Goals as goal

pub loop-run-preserved : goal.loop-run-preserved
loop-run-preserved c =
    let s = c.in-Some.ensures.steps in
    let low = c.loop-run.invariant.rising.0 in
    let here = subst (λ (l : List WordRun). AreRuns low l) s.run c.loop-run.invariant.rising.1 in
    let now = joined c.loop-run.words c.loop-run.listed in
    let total = λ (cell : ℕ). option_or (word_in_runs c.args.view.now.runs cell) (kept_word (joined c.args.words.now c.args.listed.now) cell) in
    record {
      rising = (_, here.1);
      size = c.add_run.ensures.size ∙ c.loop-run.invariant.size;
      so_far = λ cell. next_run low _ c.next.new.self cell (kept_word now cell) _ (total cell) here (c.add_run.ensures.kept cell) (subst (λ (l : List WordRun). option_or (word_in_runs l cell) (kept_word now cell) ≡ total cell) s.run (c.loop-run.invariant.so_far cell));
    }

pub returns-clause-kept : goal.returns-clause-kept
returns-clause-kept c = λ cell.
    let now = joined c.loop-run.words c.loop-run.listed in
    sym (ap (λ (l : List WordRun). option_or (word_in_runs l cell) (kept_word now cell)) c.in-None.ensures.steps.0) ∙ c.loop-run.invariant.so_far cell
