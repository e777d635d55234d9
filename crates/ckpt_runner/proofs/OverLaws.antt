-- Runs of instructions whose write faults are served.
use Rattle.std.proofs.Common.{◌≡◌, ◌≢◌, refl, sym, ◌∙◌, ap, subst, ℕ, zero, suc, ◌+◌, ◌/◌, ◌<◌, ◌==◌, ◌||◌, Bool, true, false, not, List, [], ◌∷◌, ◌++◌, length, get_or, set, append_assoc, append-nil, Option, Some, None, ◌⊎◌, ⊎_elim, inl, inr, arith, length-set, get_or-set_same, get_or-set_other}
use Rattle.std.specs.Prelude.{slice_get, slice_index}
use Rattle.std.specs.List.{AllByRecursion, list_any}
use Rattle.std.proofs.lemmas.Bool.Decides.{nat_tests}
use Rattle.std.proofs.lemmas.List.Elements.{recursion_from_All}
use Rattle.ckpt_base.specs.Event.{Event}
use Rattle.dirty_pages.specs.Pages.{PageStates, is_dirty, is_protected, in_snapshot, served}
use Rattle.machine_code.specs.declared.event.Event as machine
use Rattle.machine_code.specs.declared.event.Event.TheVariants.{WriteFault, Ran, Ticked, Out, OutNumber, WantsInput, Checkpoint, Exclude, Ended, Trapped}
use Rattle.machine_code.specs.declared.instr.Instr.TheVariants.{Tick}
use Rattle.machine_code.specs.CodeView.{CodeView}
use Rattle.machine_code.specs.State.{State}
use Rattle.machine_code.specs.Memory.{FitsMemory}
use Rattle.machine_code.specs.Run.{world, after}
use Rattle.machine_code.proofs.RunLaws.{after_both}
use Rattle.paged_machine.specs.Fitting.{FitTogether}
use Rattle.paged_machine.specs.Rest.{Shrinks}
use Rattle.paged_machine.specs.RunOn.{Answers, GoesOn, WouldWrite, told_by}
use Rattle.paged_machine.proofs.StopLaws.{is_done, comes_first}
use Rattle.ckpt_runner.specs.RunsOver.{IsStore, writes_page, RunsOver}
use Rattle.ckpt_runner.specs.Snapshot.{IsApart, IsSnapped}
use Rattle.ckpt_runner.proofs.ServedLaws.{IsOpenStore, open_page}

-- ---- the pages that stores write

plain_stores : (pages : PageStates) (es : List Event) → AllByRecursion (IsOpenStore pages) es → AllByRecursion IsStore es
plain_stores pages [] h = tt
plain_stores pages (e ∷ es) h = ((h.0.0, h.0.1), plain_stores pages es h.1)

both_stores : (xs ys : List Event) → AllByRecursion IsStore xs → AllByRecursion IsStore ys → AllByRecursion IsStore (xs ++ ys)
both_stores [] ys h k = k
both_stores (x ∷ xs) ys h k = (h.0, both_stores xs ys h.1 k)

or_cases : (a b : Bool) → (a || b) ≡ true → (a ≡ true) ⊎ (b ≡ true)
or_cases true b e = inl refl
or_cases false b e = inr e

-- a page that open stores write is dirty
written_dirty : (pages : PageStates) (page : ℕ) (es : List Event) → AllByRecursion (IsOpenStore pages) es → list_any (writes_page page) es ≡ true → is_dirty pages page ≡ true
written_dirty pages page [] h e = absurd (let z : false ≡ true = e in cc)
written_dirty pages page (x ∷ es) h e =
    ⊎_elim (λ here. open_page pages h.0.0 page h.0.2 (sym (ap (writes_page page) h.0.1) ∙ here)) (λ later. written_dirty pages page es h.1 later) (or_cases (writes_page page x) (list_any (writes_page page) es) e)

or_same : (a b : Bool) → (b ≡ true → a ≡ true) → a ≡ (a || b)
or_same true b h = refl
or_same false true h = h refl
or_same false false h = refl

or_assoc : (a b d : Bool) → (a || (b || d)) ≡ ((a || b) || d)
or_assoc true b d = refl
or_assoc false b d = refl

or_true : (a b : Bool) → b ≡ true → true ≡ (a || b)
or_true true b e = refl
or_true false b e = sym e

any_both : (test : Event → Bool) (xs ys : List Event) → list_any test (xs ++ ys) ≡ (list_any test xs || list_any test ys)
any_both test [] ys = refl
any_both test (x ∷ xs) ys = ap (λ (b : Bool). test x || b) (any_both test xs ys) ∙ or_assoc (test x) (list_any test xs) (list_any test ys)

-- ---- one run, and one more behind a fault

pub over_first : (c : CodeView) (s t : State) (m n : List ℕ) (pages : PageStates) (answer : Option machine.Event) → GoesOn c (is_protected pages) s m answer t n → RunsOver c s m pages answer t n pages
over_first c s t m n pages answer g =
    let each = recursion_from_All (IsOpenStore pages) g.stores g.open_pages in
    record {
      count = g.count;
      stores = g.stores;
      each = plain_stores pages g.stores each;
      comes = g.comes;
      pages = refl;
      dirty = λ page within. or_same (is_dirty pages page) (list_any (writes_page page) g.stores) (written_dirty pages page g.stores each);
      marks = refl;
      fewer = λ page h. h;
    }

or_turn : (a b : Bool) → (a || b) ≡ (b || a)
or_turn true true = refl
or_turn true false = refl
or_turn false true = refl
or_turn false false = refl

-- the page of a served fault is dirty, and it is written then
dirty_on : (mid : PageStates) (p page : ℕ) (es : List Event) → p < length mid.dirty → AllByRecursion (IsOpenStore (served mid p)) es → list_any (writes_page p) es ≡ true → is_dirty (served mid p) page ≡ (is_dirty mid page || list_any (writes_page page) es)
dirty_on mid p page es within each writes = by_page (page == p) refl
  where
    by_page : (b : Bool) → (page == p) ≡ b → is_dirty (served mid p) page ≡ (is_dirty mid page || list_any (writes_page page) es)
    by_page true e =
        let same : p ≡ page = grind (arith, nat_tests, e) in
        subst (λ (q : ℕ). is_dirty (served mid p) q ≡ (is_dirty mid q || list_any (writes_page q) es)) same
        (get_or-set_same mid.dirty p true true within ∙ or_true (is_dirty mid p) (list_any (writes_page p) es) writes)
    by_page false e =
        let other : page ≢ p = grind (arith, nat_tests, e) in
        let was : is_dirty (served mid p) page ≡ is_dirty mid page = get_or-set_other mid.dirty p page true true other in
        was ∙ or_same (is_dirty mid page) (list_any (writes_page page) es) (λ here. sym was ∙ written_dirty (served mid p) page es each here)

-- the fault of page p was served: it is dirty and in no snapshot, and in the snapshot is no page that was not
pub record IsOpened (mid : PageStates) (p : ℕ) (new : PageStates) : Type 0 where
  pub dirty : new.dirty ≡ (served mid p).dirty
  pub marks : length new.in_snapshot ≡ length mid.in_snapshot
  pub fewer : (page : ℕ) → in_snapshot new page ≡ true → in_snapshot mid page ≡ true
  pub here : in_snapshot new p ≡ false

-- the pages behind that fault, with these in the snapshot
abbrev opened : PageStates → ℕ → List Bool → PageStates
opened mid p marks = record { dirty = (served mid p).dirty; in_snapshot = marks }

over_then : (c : CodeView) (s t u : State) (m n k : List ℕ) (old mid new : PageStates) (p : ℕ) (answer : Option machine.Event) → IsOpened mid p new → RunsOver c s m old (Some (WriteFault p)) t n mid → WouldWrite c mid t n p
    → GoesOn c (is_protected (opened mid p new.in_snapshot)) t n answer u k → Answers c (opened mid p new.in_snapshot) u k answer → (answer ≡ None → slice_get c.instrs u.place ≡ Some Tick) → RunsOver c s m old answer u k (opened mid p new.in_snapshot)
over_then c s t u m n k old mid new p answer o r w g is none =
    let on = opened mid p new.in_snapshot in
    let each = recursion_from_All (IsOpenStore on) g.stores g.open_pages in
    let there : is_protected on p ≡ false = ap not (get_or-set_same mid.dirty p true true w.within) in
    let closed : is_protected on (w.cell / 512) ≡ false = subst (λ (q : ℕ). is_protected on q ≡ false) (sym w.page) there in
    let some = is_done c on t u n k answer w.cell w.shown closed g is none in
    let first = comes_first c on t u n k answer w.cell w.shown g some in
    let writes : list_any (writes_page p) g.stores ≡ true =
    ap (list_any (writes_page p)) first.1 ∙ (let here : (w.cell / 512 == p) ≡ true = let e = w.page in grind (arith, nat_tests, e) in sym (or_true (list_any (writes_page p) first.0) (w.cell / 512 == p) here ∙ or_turn (list_any (writes_page p) first.0) (w.cell / 512 == p))) in
    record {
      count = r.count + g.count;
      stores = r.stores ++ g.stores;
      each = both_stores r.stores g.stores r.each (plain_stores on g.stores each);
      comes = λ input events.
          let go = r.comes input events ∙ ap (λ (l : List Event). world t n input (events ++ l)) (append-nil r.stores) in
          sym (after_both c r.count g.count (world s m input events)) ∙ ap (after c g.count) go ∙ g.comes input (events ++ r.stores)
          ∙ ap (λ (l : List Event). world u k input l) (append_assoc events r.stores (g.stores ++ told_by u.ticks answer) ∙ ap (λ (l : List Event). events ++ l) (sym (append_assoc r.stores g.stores (told_by u.ticks answer))));
      pages = length-set mid.dirty p true ∙ r.pages;
      dirty = λ page within.
          let was = is_dirty mid page in
          let now : is_dirty on page ≡ (was || list_any (writes_page page) g.stores) = dirty_on mid p page g.stores w.within each writes in
          now ∙ ap (λ (b : Bool). b || list_any (writes_page page) g.stores) (r.dirty page within)
          ∙ sym (or_assoc (is_dirty old page) (list_any (writes_page page) r.stores) (list_any (writes_page page) g.stores))
          ∙ ap (λ (b : Bool). is_dirty old page || b) (sym (any_both (writes_page page) r.stores g.stores));
      marks = o.marks ∙ r.marks;
      fewer = λ page h. r.fewer page (o.fewer page h);
    }

-- ---- how many pages are protected

pub closed : List Bool → ℕ
closed [] = 0
closed (true ∷ bs) = closed bs
closed (false ∷ bs) = 1 + closed bs

pub closed_less : (bs : List Bool) (p : ℕ) → p < length bs → get_or bs p true ≡ false → closed (set bs p true) < closed bs
unfolding closed
closed_less [] p within e = absurd (omega (arith, within))
closed_less (true ∷ bs) zero within e = absurd (let z : true ≡ false = e in cc)
closed_less (false ∷ bs) zero within e = omega arith
closed_less (true ∷ bs) (suc p) within e = closed_less bs p (omega (arith, within)) e
closed_less (false ∷ bs) (suc p) within e = let less = closed_less bs p (omega (arith, within)) e in omega (arith, less)

pub shrinks_then : (c : CodeView) (until p : ℕ) (s t u : State) (answer : Option machine.Event) → Shrinks c until s (Some (WriteFault p)) t → Shrinks c until t answer u → Shrinks c until s answer u
shrinks_then c until p s t u None a b = omega (arith, a, b)
shrinks_then c until p s t u (Some Ran) a b = omega (arith, a, b)
shrinks_then c until p s t u (Some Ticked) a b = omega (arith, a, b)
shrinks_then c until p s t u (Some (WriteFault q)) a b = omega (arith, a, b)
shrinks_then c until p s t u (Some WantsInput) a b = omega (arith, a, b)
shrinks_then c until p s t u (Some (Ended v)) a b = tt
shrinks_then c until p s t u (Some (Trapped q)) a b = tt
shrinks_then c until p s t u (Some (Out q)) a b = omega (arith, a, b)
shrinks_then c until p s t u (Some (OutNumber q)) a b = omega (arith, a, b)
shrinks_then c until p s t u (Some (Checkpoint q)) a b = omega (arith, a, b)
shrinks_then c until p s t u (Some (Exclude q)) a b = omega (arith, a, b)

-- ---- a served fault

pub fit_on : (c : CodeView) (m n : List ℕ) (pages new : PageStates) → FitTogether c m pages → length n ≡ length m → length new.dirty ≡ length pages.dirty → FitTogether c n new
fit_on c m n pages new f size same = record {
  same = let e = f.same in omega (arith, e, size, same);
  few = let le = f.few in omega (arith, le, same);
  cells = subst (FitsMemory c) (sym size) f.cells;
}

pub served_less : (pages new : PageStates) (p : ℕ) → IsOpened pages p new → p < length pages.dirty → is_protected pages p ≡ true → closed new.dirty < closed pages.dirty
served_less pages new p is within protected =
    subst (λ (d : List Bool). closed d < closed pages.dirty) (sym is.dirty) (closed_less pages.dirty p within (not_true (get_or pages.dirty p true) protected))
  where
    not_true : (b : Bool) → not b ≡ true → b ≡ false
    not_true true e = sym e
    not_true false e = refl

pub over_on : (c : CodeView) (s t u : State) (m n k : List ℕ) (old mid new : PageStates) (p : ℕ) (answer : Option machine.Event) → IsOpened mid p new → RunsOver c s m old (Some (WriteFault p)) t n mid → WouldWrite c mid t n p
    → GoesOn c (is_protected new) t n answer u k → Answers c new u k answer → (answer ≡ None → slice_get c.instrs u.place ≡ Some Tick) → RunsOver c s m old answer u k new
over_on c s t u m n k old mid new p answer is r w g told none =
    let with_dirty : List Bool → PageStates = λ d. record { dirty = d; in_snapshot = new.in_snapshot } in
    subst (λ (d : List Bool). RunsOver c s m old answer u k (with_dirty d)) (sym is.dirty)
    (over_then c s t u m n k old mid new p answer is r w (subst (λ (d : List Bool). GoesOn c (is_protected (with_dirty d)) t n answer u k) is.dirty g) (subst (λ (d : List Bool). Answers c (with_dirty d) u k answer) is.dirty told) none)

-- ---- the snapshot

pub snapped_on : (takes : ℕ → Bool) (memory : List ℕ) (pages : PageStates) (m n copies : List ℕ) → IsApart pages → ((cell : ℕ) → is_protected pages (cell / 512) ≡ true → slice_index n cell ≡ slice_index m cell)
    → IsSnapped takes memory pages m copies → IsSnapped takes memory pages n copies
snapped_on takes memory pages m n copies apart spared h = record {
  marked = λ cell takes marked. spared cell (ap not (apart (cell / 512) marked)) ∙ h.marked cell takes marked;
  copied = h.copied;
}

pub apart_on : (mid new : PageStates) (p : ℕ) → IsOpened mid p new → IsApart mid → IsApart new
apart_on mid new p o apart q marked = by_page (q == p) refl
  where
    wrong : (b : Bool) → b ≡ true → b ≡ false → ⊥
    wrong b set clear = let z : true ≡ false = sym set ∙ clear in cc

    by_page : (b : Bool) → (q == p) ≡ b → is_dirty new q ≡ false
    by_page true e =
        let same : q ≡ p = grind (arith, nat_tests, e) in absurd (wrong (in_snapshot new p) (ap (in_snapshot new) (sym same) ∙ marked) o.here)
    by_page false e =
        let other : q ≢ p = grind (arith, nat_tests, e) in
        ap (λ (d : List Bool). get_or d q true) o.dirty ∙ get_or-set_other mid.dirty p q true true other ∙ apart q (o.fewer q marked)

-- ---- a run, whatever it goes on with

-- however the run goes on from there, it is one from the first standing on
abbrev pub GoesOver : CodeView → State → List ℕ → PageStates → State → List ℕ → PageStates → Type 0
GoesOver c s m old t n new =
    (answer : Option machine.Event) (u : State) (k : List ℕ) → GoesOn c (is_protected new) t n answer u k → Answers c new u k answer → (answer ≡ None → slice_get c.instrs u.place ≡ Some Tick) → RunsOver c s m old answer u k new

-- however it goes on, the rest shrinks as if it went on from the first standing
abbrev pub ShrinksOver : CodeView → ℕ → State → State → Type 0
ShrinksOver c until s t = (answer : Option machine.Event) (u : State) → Shrinks c until t answer u → Shrinks c until s answer u

pub goes_first : (c : CodeView) (s : State) (m : List ℕ) (pages : PageStates) → GoesOver c s m pages s m pages
goes_first c s m pages = λ answer u k g told none. over_first c s u m k pages answer g

-- behind a fault that was served
pub goes_then : (c : CodeView) (s t u : State) (m n k : List ℕ) (old mid new : PageStates) (p : ℕ) (answer : Option machine.Event) → answer ≡ Some (WriteFault p) → IsOpened mid p new → GoesOver c s m old t n mid
    → GoesOn c (is_protected mid) t n answer u k → Answers c mid u k answer → GoesOver c s m old u k new
goes_then c s t u m n k old mid new p answer fault is over g told =
    let w : WouldWrite c mid u k p = subst (Answers c mid u k) fault told in
    let r : RunsOver c s m old (Some (WriteFault p)) u k mid =
    over (Some (WriteFault p)) u k (subst (λ (a : Option machine.Event). GoesOn c (is_protected mid) t n a u k) fault g) w (λ e. absurd (let z : Some (WriteFault p) ≡ None = e in cc)) in
    λ next v l h shown none. over_on c s u v m k l old mid new p next is r w h shown none

pub shrinks_over : (c : CodeView) (until p : ℕ) (s t u : State) (answer : Option machine.Event) → answer ≡ Some (WriteFault p) → ShrinksOver c until s t → Shrinks c until t answer u → ShrinksOver c until s u
shrinks_over c until p s t u answer fault over less =
    let here : Shrinks c until s (Some (WriteFault p)) u = over (Some (WriteFault p)) u (subst (λ (a : Option machine.Event). Shrinks c until t a u) fault less) in
    λ next v h. shrinks_then c until p s u v next here h
