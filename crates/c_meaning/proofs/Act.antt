-- Tasks that were given their tick.
use Rattle.std.proofs.Common.{◌≡◌, ℕ, List, Result, Ok, Err, sym, ap, subst, ◌∙◌}
use Rattle.std.specs.Borrow.{Bor}
use Rattle.ckpt_base.specs.declared.trap.Trap.{Trap}
use Rattle.ckpt_base.specs.Trap.{trap_number}
use Rattle.ckpt_base.specs.declared.ending.Ending.TheVariants.{Trapped}
use Rattle.ckpt_base.specs.Run as run
use Rattle.ckpt_base.specs.Run.{Run}
use Rattle.c_tree.specs.declared.resolved.RFunction.{RFunction}
use Rattle.c_tree.specs.State.{State}
use Rattle.c_tree.specs.Meaning.{Ways, over, given}
use Rattle.c_meaning.specs.declared.progress.Progress.{Progress}
use Rattle.c_meaning.specs.declared.evaluator.Evaluator.{Evaluator}
use Rattle.c_meaning.specs.declared.work.Single.{Single}
use Rattle.c_meaning.specs.declared.work.Task.{Task}
use Rattle.c_meaning.specs.declared.work.Task.TheVariants as task
use Rattle.c_meaning.specs.Plain.{IsPlain}
use Rattle.c_meaning.specs.Working.{todo, calls, ways, ways_on, action, does_task, state, From, Stands, Keeps, Did, Took}

-- the ways on are the same where the functions are, and the calls that may be made
ways_kept : (e : Evaluator) (p : Progress) → Keeps e.progress p → (ms : List ℕ) → ways_on e ms ≡ ways_on (record { progress = p; work = e.work }) ms
ways_kept e p k ms = ap (λ (a : ℕ). ways e.progress.functions.now a (todo e) ms) (sym k.allowed) ∙ ap (λ (fs : Bor (List RFunction)). ways fs.now p.allowed (todo e) ms) (sym k.functions)

module _ (e : Evaluator) (p : Progress) (t : Task) (x : Single) (is : t ≡ task.Single x) (k : Keeps e.progress p) (o : Result (Unit {0}) Trap) (did : (m : ℕ) → Did (action x m) e.progress p o) (m n : ℕ) (r : Run) where
  single_is : (w : Ways) (s : State) → does_task (calls e) t m w s n ≡ given (action x m s) s (λ u. w.next u n)
  single_is w s = ap (λ (t : Task). does_task (calls e) t m w s n) is

  -- a statement was done
  pub single_done : (u : Unit {0}) → o ≡ Ok u → From (does_task (calls e) t m) e n r → Stands (record { progress = p; work = e.work }) n r
  single_done u ok f =
      let d = subst (Did (action x m) e.progress p) ok (did m) in
      let y = d f.events f.shown in
      record {
        events = y.0;
        numbers = f.numbers;
        shown = y.1;
        goes = f.goes ∙ single_is (ways_on e f.numbers) (state e.progress f.events)
            ∙ ap (λ (v : Result State Trap). given v (state e.progress f.events) (λ u. (ways_on e f.numbers).next u n)) y.2
            ∙ ap (λ (w : Ways). w.next (state p y.0) n) (ways_kept e p k f.numbers);
      }

  -- a statement came to a trap
  pub single_trapped : (trap : Trap) (number : ℕ) → o ≡ Err trap → number ≡ trap_number trap → From (does_task (calls e) t m) e n r → IsPlain p.output (Trapped number) p.ticks r
  single_trapped trap number err number_is f =
      let d = subst (Did (action x m) e.progress p) err (did m) in
      let g : r ≡ over (Trapped (trap_number trap)) (state e.progress f.events) = f.goes ∙ single_is (ways_on e f.numbers) (state e.progress f.events)
      ∙ ap (λ (v : Result State Trap). given v (state e.progress f.events) (λ u. (ways_on e f.numbers).next u n)) (d.1 f.events) in
      record {
        same_output = d.0 ∙ f.shown ∙ ap (λ (r : Run). run.output r.events) (sym g);
        same_ending = ap Trapped number_is ∙ ap (λ (r : Run). r.ending) (sym g);
        same_ticks = k.ticks ∙ ap (λ (r : Run). r.ticks) (sym g);
      }

-- an input byte was taken, which ends the function
pub input_taken : (e : Evaluator) (p : Progress) (t : Task) (a : ℕ) → t ≡ task.ReturnInput → Keeps e.progress p → Took a e.progress p → (m n : ℕ) (r : Run) → From (does_task (calls e) t m) e n r → From (λ w. w.back a) (record { progress = p; work = e.work }) n r
input_taken e p t a is k took m n r f =
    let y = took.took f.events in
    record {
      events = y.0;
      numbers = f.numbers;
      shown = took.output ∙ f.shown ∙ sym y.1;
      goes = f.goes ∙ ap (λ (t : Task). does_task (calls e) t m (ways_on e f.numbers) (state e.progress f.events) n) is
          ∙ ap (λ (v : ℕ × State). (ways_on e f.numbers).back v.0 v.1 n) y.2
          ∙ ap (λ (w : Ways). w.back a (state p y.0) n) (ways_kept e p k f.numbers);
    }
