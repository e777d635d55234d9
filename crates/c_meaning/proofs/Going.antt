-- How the runs that go on from an evaluator change with it.
use Rattle.std.proofs.Common.{◌≡◌, ℕ, ◌<◌, List, [], ◌∷◌, length, Some, None, refl, sym, ap, ◌∙◌, arith}
use Rattle.ckpt_base.specs.Event.{Event}
use Rattle.ckpt_base.specs.Run.{Run}
use Rattle.c_tree.specs.State.{State}
use Rattle.c_tree.specs.Meaning.{Then, Ways}
use Rattle.c_meaning.specs.declared.progress.Progress.{Progress}
use Rattle.c_meaning.specs.declared.evaluator.Evaluator.{Evaluator}
use Rattle.c_meaning.specs.declared.work.End.{End}
use Rattle.c_meaning.specs.declared.work.Item.{Item}
use Rattle.c_meaning.specs.declared.work.Item.TheVariants as item
use Rattle.c_meaning.specs.Working.{todo, calls, before, first, others, ways, ways_on, behind, state, end_item, From, Taken, Stands, Passes, Skipped, weights}

-- ---- what moves a run from one evaluator to the next

pub moved : (e e' : Evaluator) (go go' : Ways → Then) (f : List ℕ → List ℕ) (n : ℕ) (r : Run) → e'.progress ≡ e.progress
    → ((ms : List ℕ) (s : State) (n : ℕ) → go (ways_on e ms) s n ≡ go' (ways_on e' (f ms)) s n) → From go e n r → From go' e' n r
moved e e' go go' f n r same h x = record {
  events = x.events;
  numbers = f x.numbers;
  shown = ap (λ (p : Progress). p.output) same ∙ x.shown;
  goes = x.goes ∙ h x.numbers (state e.progress x.events) n ∙ ap (λ (p : Progress). go' (ways_on e' (f x.numbers)) (state p x.events) n) (sym same);
}

-- the ways on with an item that was put before all others
pub added : (e e' : Evaluator) (i : Item) → e'.progress ≡ e.progress → todo e' ≡ i ∷ todo e → (m : ℕ) (ms : List ℕ) → ways_on e' (m ∷ ms) ≡ before (calls e) i m (behind i e ms)
added e e' i same t m ms = ap (λ (p : Progress). ways p.functions.now p.allowed (todo e') (m ∷ ms)) same ∙ ap (λ (is : List Item). ways e.progress.functions.now e.progress.allowed is (m ∷ ms)) t

-- the ways on before an item that was taken away
pub removed : (e e' : Evaluator) (i : Item) → e'.progress ≡ e.progress → todo e ≡ i ∷ todo e' → (ms : List ℕ) → ways_on e ms ≡ before (calls e') i (first ms) (behind i e' (others ms))
removed e e' i same t ms = ap (λ (is : List Item). ways e.progress.functions.now e.progress.allowed is ms) t ∙ ap (λ (p : Progress). ways p.functions.now p.allowed (i ∷ todo e') ms) (sym same)

-- the next item was taken away
pub taken : (e e' : Evaluator) (i : Item) (n : ℕ) (r : Run) → e'.progress ≡ e.progress → todo e ≡ i ∷ todo e' → Stands e n r → Taken i e' n r
taken e e' i n r same t x = record {
  events = x.events;
  number = first x.numbers;
  numbers = others x.numbers;
  shown = ap (λ (p : Progress). p.output) same ∙ x.shown;
  goes = x.goes ∙ ap (λ (w : Ways). w.next (state e.progress x.events) n) (removed e e' i same t x.numbers)
      ∙ ap (λ (p : Progress). (before (calls e') i (first x.numbers) (behind i e' (others x.numbers))).next (state p x.events) n) (sym same);
}

-- ---- loops that are left

-- the ways out of the loop are the same
pub record Passed (e e' : Evaluator) : Type 0 where
  pub numbers : List ℕ → List ℕ
  pub out_of_loop : (ms : List ℕ) → (ways_on e ms).out_of_loop ≡ (ways_on e' (numbers ms)).out_of_loop
  pub again : (ms : List ℕ) → (ways_on e ms).again ≡ (ways_on e' (numbers ms)).again

pub none_passed : (e : Evaluator) → Passed e e
none_passed e = record { numbers = λ ms. ms; out_of_loop = λ ms. refl; again = λ ms. refl }

pub one_passed : (e a b : Evaluator) (i : Item) → Passed e a → b.progress ≡ a.progress → todo a ≡ i ∷ todo b → Passes i → Passed e b
one_passed e a b i x same t p = record {
  numbers = λ ms. others (x.numbers ms);
  out_of_loop = λ ms. x.out_of_loop ms ∙ ap (λ (w : Ways). w.out_of_loop) (removed a b i same t (x.numbers ms)) ∙ (passes i (first (x.numbers ms)) (others (x.numbers ms)) p).0;
  again = λ ms. x.again ms ∙ ap (λ (w : Ways). w.again) (removed a b i same t (x.numbers ms)) ∙ (passes i (first (x.numbers ms)) (others (x.numbers ms)) p).1;
}
  where
    passes : (i : Item) (m : ℕ) (ms : List ℕ) → Passes i → ((before (calls b) i m (behind i b ms)).out_of_loop ≡ (ways_on b ms).out_of_loop) × ((before (calls b) i m (behind i b ms)).again ≡ (ways_on b ms).again)
    passes (item.One s) m ms p = (refl, refl)
    passes (item.Rest ss) m ms p = (refl, refl)
    passes (item.Tests arms last) m ms p = (refl, refl)
    passes (item.Turn l) m ms p = (refl, refl)
    passes (item.Again l) m ms p = absurd p
    passes (item.Back f) m ms p = absurd p

pub end_skipped : (e a b : Evaluator) (end : End) → Passed e a → b.progress ≡ a.progress → todo a ≡ end_item end ∷ todo b → Skipped e b (Some end)
end_skipped e a b end x same t ms = (
  first (x.numbers ms),
  others (x.numbers ms),
  x.out_of_loop ms ∙ ap (λ (w : Ways). w.out_of_loop) (removed a b (end_item end) same t (x.numbers ms)),
  x.again ms ∙ ap (λ (w : Ways). w.again) (removed a b (end_item end) same t (x.numbers ms)),
)

pub all_skipped : (e a b : Evaluator) → Passed e a → todo a ≡ [] → todo b ≡ [] → Skipped e b None
all_skipped e a b x t u = (
  u,
  λ ms. (
    x.out_of_loop ms ∙ ap (λ (is : List Item). (ways a.progress.functions.now a.progress.allowed is (x.numbers ms)).out_of_loop) t,
    x.again ms ∙ ap (λ (is : List Item). (ways a.progress.functions.now a.progress.allowed is (x.numbers ms)).again) t,
  ),
)

pub some_weight : (i : Item) (is js : List Item) → is ≡ i ∷ js → weights js < weights is
some_weight (item.One s) is js t = omega (arith, ap weights t)
some_weight (item.Rest ss) is js t = omega (arith, ap weights t)
some_weight (item.Tests arms last) is js t = omega (arith, ap weights t)
some_weight (item.Turn l) is js t = omega (arith, ap weights t)
some_weight (item.Again l) is js t = omega (arith, ap weights t)
some_weight (item.Back f) is js t = omega (arith, ap weights t)

-- ---- steps that depend on the values of the variables

pub moved_at : (e e' : Evaluator) (go go' : Ways → Then) (f : List ℕ → List ℕ) (n : ℕ) (r : Run) → e'.progress ≡ e.progress
    → ((ms : List ℕ) (es : List Event) → go (ways_on e ms) (state e.progress es) n ≡ go' (ways_on e' (f ms)) (state e.progress es) n) → From go e n r → From go' e' n r
moved_at e e' go go' f n r same h x = record {
  events = x.events;
  numbers = f x.numbers;
  shown = ap (λ (p : Progress). p.output) same ∙ x.shown;
  goes = x.goes ∙ h x.numbers x.events ∙ ap (λ (p : Progress). go' (ways_on e' (f x.numbers)) (state p x.events) n) (sym same);
}

pub no_items : {A : Type 0} → (xs : List A) → length xs ≡ 0 → xs ≡ []
no_items [] h = refl
no_items (x ∷ xs) h = absurd (omega arith)
