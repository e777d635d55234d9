-- What runs of instructions show, one after another.
use Rattle.std.proofs.Common.{◌≡◌, ℕ, ◌+◌, ◌<◌, ◌≤◌, max, length, true, arith, List, [], ◌++◌, Bool, Option, Some, None, refl, sym, ap, ◌∙◌, subst, append_assoc, ◌/◌, ◌⊎◌, ⊎_elim, inl, inr}
use Rattle.std.specs.Prelude.{slice_get, slice_index, IfSome, IsNone}
use Rattle.std.proofs.lemmas.List.{append-nil}
use Rattle.std.proofs.Math.Nat.{le-max_left, le-max_right}
use Rattle.dirty_pages.specs.Pages.{PageStates, is_protected}
use Rattle.machine_code.specs.declared.instr.Instr.TheVariants.{Tick, In}
use Rattle.ckpt_base.specs.Event as run
use Rattle.machine_code.specs.declared.event.Event.{Event}
use Rattle.machine_code.specs.declared.event.Event.TheVariants.{Ran, Ticked, WriteFault, Out, OutNumber, WantsInput, Checkpoint, Exclude, Ended, Trapped}
use Rattle.machine_code.specs.CodeView.{CodeView}
use Rattle.machine_code.specs.State.{State}
use Rattle.machine_code.specs.Run.{world, unprotected, next_row, after}
use Rattle.machine_code.proofs.RunLaws.{after_both}
use Rattle.paged_machine.specs.RunOn.{AreStores, Answers, Behind, WouldWrite, GoesOn, told_by, told, telling, done_by, done_of, ticks_of, live_behind}
use Rattle.paged_machine.specs.Standing.{StandsIn}
use Rattle.paged_machine.specs.Stepped.{Stepped, Still}
use Rattle.paged_machine.specs.Rest.{rest, Shrinks}
use Rattle.paged_machine.proofs.ToGo.{leaves, pays, shrinks}
use Rattle.machine_code.specs.Row.{Done}
use Rattle.paged_machine.specs.MachineView.{MachineView, live_after}
use Rattle.paged_machine.proofs.OneStep.{Leads, next_plain, no_fault}
use Rattle.paged_machine.proofs.Tells.{ticked_at}
use Rattle.paged_machine.proofs.Shows.{ShownBy, no_stores, both_stores}

refl_le : (n : ℕ) → n ≤ n
refl_le n = omega arith

zero_le : (n : ℕ) → 0 ≤ n
zero_le n = omega arith

module _ (c : CodeView) (protected : ℕ → Bool) where
  told_alone : (s : State) (m : List ℕ) (e : Event) (t : State) (n : List ℕ) (shown : List run.Event) → shown ≡ told_by t.ticks (Some e) → Leads c (done_by e) s m t n shown → GoesOn c protected s m (Some e) t n
  told_alone s m e t n shown is leads = record { count = done_by e; done = refl_le (done_by e); stores = []; open_pages = no_stores protected; comes = subst (Leads c (done_by e) s m t n) is leads }

  stored_alone : (k : ℕ) (s : State) (m : List ℕ) (t : State) (n : List ℕ) (shown : List run.Event) → AreStores protected shown → Leads c k s m t n shown → GoesOn c protected s m None t n
  stored_alone k s m t n shown stores leads = record { count = k; done = zero_le k; stores = shown; open_pages = stores; comes = subst (Leads c k s m t n) (sym (append-nil shown)) leads }

  -- one instruction
  pub goes_on : (s : State) (m : List ℕ) (e : Event) (t : State) (n : List ℕ) (shown : List run.Event) → ShownBy protected t.ticks e shown → Leads c (done_by e) s m t n shown → GoesOn c protected s m (telling e) t n
  goes_on s m Ran t n shown is leads = stored_alone 1 s m t n shown is leads
  goes_on s m Ticked t n shown is leads = stored_alone 1 s m t n [] (no_stores protected) (subst (Leads c 1 s m t n) is leads)
  goes_on s m (WriteFault p) t n shown is leads = told_alone s m (WriteFault p) t n shown is leads
  goes_on s m (Out b) t n shown is leads = told_alone s m (Out b) t n shown is leads
  goes_on s m (OutNumber v) t n shown is leads = told_alone s m (OutNumber v) t n shown is leads
  goes_on s m WantsInput t n shown is leads = told_alone s m WantsInput t n shown is leads
  goes_on s m (Checkpoint k) t n shown is leads = told_alone s m (Checkpoint k) t n shown is leads
  goes_on s m (Exclude k) t n shown is leads = told_alone s m (Exclude k) t n shown is leads
  goes_on s m (Ended v) t n shown is leads = told_alone s m (Ended v) t n shown is leads
  goes_on s m (Trapped k) t n shown is leads = told_alone s m (Trapped k) t n shown is leads

  pub goes_on_counted : (s : State) (m : List ℕ) (e : Event) (t : State) (n : List ℕ) (shown : List run.Event) (is : ShownBy protected t.ticks e shown) (leads : Leads c (done_by e) s m t n shown) → (goes_on s m e t n shown is leads).count ≡ done_by e
  unfolding goes_on stored_alone told_alone
  goes_on_counted s m Ran t n shown is leads = refl
  goes_on_counted s m Ticked t n shown is leads = refl
  goes_on_counted s m (WriteFault p) t n shown is leads = refl
  goes_on_counted s m (Out b) t n shown is leads = refl
  goes_on_counted s m (OutNumber v) t n shown is leads = refl
  goes_on_counted s m WantsInput t n shown is leads = refl
  goes_on_counted s m (Checkpoint k) t n shown is leads = refl
  goes_on_counted s m (Exclude k) t n shown is leads = refl
  goes_on_counted s m (Ended v) t n shown is leads = refl
  goes_on_counted s m (Trapped k) t n shown is leads = refl

  -- no instruction
  pub stays_here : (s : State) (m : List ℕ) → GoesOn c protected s m None s m
  stays_here s m = stored_alone 0 s m s m [] (no_stores protected) (λ input events. ap (λ x. world s m input x) (sym (append-nil events)))

  -- the same run, whose answer is called by another name
  pub retold : (s : State) (m : List ℕ) (a b : Option Event) (t : State) (n : List ℕ) → a ≡ b → GoesOn c protected s m a t n → GoesOn c protected s m b t n
  retold s m a b t n e g = record {
    count = g.count;
    done = subst (λ x. done_of x ≤ g.count) e g.done;
    stores = g.stores;
    open_pages = g.open_pages;
    comes = subst (λ x. Leads c g.count s m t n (g.stores ++ told_by t.ticks x)) e g.comes;
  }

  -- and so with its count
  pub counted_on : (s : State) (m : List ℕ) (a b : Option Event) (t : State) (n : List ℕ) (k old new : ℕ) → a ≡ b → (g : GoesOn c protected s m a t n) → g.count ≡ k → old ≡ k + new → (h : GoesOn c protected s m b t n) × (old ≡ h.count + new)
  unfolding retold
  counted_on s m a b t n k old new e g is all = (retold s m a b t n e g, omega (arith, is, all))

  -- one run behind another
  pub goes_further : (s : State) (m : List ℕ) (t : State) (n : List ℕ) (answer : Option Event) (u : State) (k : List ℕ) → GoesOn c protected s m None t n → GoesOn c protected t n answer u k → GoesOn c protected s m answer u k
  goes_further s m t n answer u k g h = record {
    count = g.count + h.count;
    done = let d = h.done in omega (arith, d);
    stores = g.stores ++ h.stores;
    open_pages = both_stores protected g.stores h.stores g.open_pages h.open_pages;
    comes = λ input events.
        let told = told_by u.ticks answer in
        let same : (events ++ (g.stores ++ [])) ++ (h.stores ++ told) ≡ events ++ ((g.stores ++ h.stores) ++ told) =
        ap (λ x. (events ++ x) ++ (h.stores ++ told)) (append-nil g.stores) ∙ append_assoc events g.stores (h.stores ++ told) ∙ ap (λ x. events ++ x) (sym (append_assoc g.stores h.stores told)) in
        sym (after_both c g.count h.count (world s m input events)) ∙ ap (after c h.count) (g.comes input events) ∙ h.comes input (events ++ (g.stores ++ [])) ∙ ap (λ x. world u k input x) same;
  }

-- whether the machine is live is what its answer says
pub live_as_told : (e : Event) → live_after true e ≡ live_behind (telling e)
live_as_told Ran = refl
live_as_told Ticked = refl
live_as_told (WriteFault p) = refl
live_as_told (Out b) = refl
live_as_told (OutNumber v) = refl
live_as_told WantsInput = refl
live_as_told (Checkpoint k) = refl
live_as_told (Exclude k) = refl
live_as_told (Ended v) = refl
live_as_told (Trapped k) = refl

-- what holds behind one instruction
module _ (c : CodeView) (pages : PageStates) (s t : State) (m n : List ℕ) (state : t ≡ (next_row c (is_protected pages) s m).state) (memory : n ≡ (next_row c (is_protected pages) s m).memory) where
  -- one that did not fault did what it does with no page protected
  same_row : (e : Event) → e ≡ (next_row c (is_protected pages) s m).event → ((p : ℕ) → e ≡ WriteFault p → ⊥) → next_row c (is_protected pages) s m ≡ next_row c unprotected s m
  same_row e is not = ⊎_elim (λ q. q) (λ f. absurd (not (f.cell / 512) (is ∙ f.event))) (next_plain c (is_protected pages) s m (slice_get c.instrs s.place))

  behind : (e : Event) → e ≡ (next_row c (is_protected pages) s m).event → ((p : ℕ) → e ≡ WriteFault p → ⊥) → Behind c e t n
  behind e is not =
      let q = same_row e is not in
      record { before = s; memory = m; event = ap (λ (d : Done). d.event) (sym q) ∙ sym is; state = ap (λ (d : Done). d.state) (sym q) ∙ sym state; cells = ap (λ (d : Done). d.memory) (sym q) ∙ sym memory }

  here : (e : Event) → e ≡ (next_row c (is_protected pages) s m).event → ((p : ℕ) → e ≡ WriteFault p → ⊥) → (t ≡ s) × (n ≡ m) → (next_row c unprotected t n).event ≡ e
  here e is not same = ap (λ (x : State). (next_row c unprotected x n).event) same.0 ∙ ap (λ y. (next_row c unprotected s y).event) same.1 ∙ ap (λ (d : Done). d.event) (sym (same_row e is not)) ∙ sym is

  would : (p : ℕ) → WriteFault p ≡ (next_row c (is_protected pages) s m).event → (t ≡ s) × (n ≡ m) → (p < length pages.dirty) × (is_protected pages p ≡ true) → WouldWrite c pages t n p
  would p is same on =
      ⊎_elim
      (λ q. absurd (no_fault c s m (slice_get c.instrs s.place) p (ap (λ (d : Done). d.event) (sym q) ∙ sym is)))
      (λ f. record {
        within = on.0;
        closed = on.1;
        cell = f.cell;
        page = let z : WriteFault (f.cell / 512) ≡ WriteFault p = sym f.event ∙ sym is in cc;
        shown = ap (λ (x : State). (next_row c unprotected x n).shown) same.0 ∙ ap (λ y. (next_row c unprotected s y).shown) same.1 ∙ f.shown;
      })
      (next_plain c (is_protected pages) s m (slice_get c.instrs s.place))

  pub answers : (e : Event) → e ≡ (next_row c (is_protected pages) s m).event → Still e s m t n → (e ≡ WantsInput → slice_get c.instrs t.place ≡ Some In) → ((p : ℕ) → e ≡ WriteFault p → (p < length pages.dirty) × (is_protected pages p ≡ true)) → Answers c pages t n (telling e)
  answers Ran is same asked fault = tt
  answers Ticked is same asked fault = tt
  answers (WriteFault p) is same asked fault = would p is same (fault p refl)
  answers (Out b) is same asked fault = behind (Out b) is (λ p h. cc)
  answers (OutNumber v) is same asked fault = behind (OutNumber v) is (λ p h. cc)
  answers WantsInput is same asked fault = asked refl
  answers (Checkpoint k) is same asked fault = behind (Checkpoint k) is (λ p h. cc)
  answers (Exclude k) is same asked fault = behind (Exclude k) is (λ p h. cc)
  answers (Ended v) is same asked fault = here (Ended v) is (λ p h. cc) same
  answers (Trapped k) is same asked fault = here (Trapped k) is (λ p h. cc) same

-- no tick is taken past the bound
pub within_bound : (c : CodeView) (protected : ℕ → Bool) (s : State) (m : List ℕ) (first until now : ℕ) (e : Event) → e ≡ (next_row c protected s m).event → (slice_get c.instrs s.place ≡ Some Tick → s.ticks < until) → now ≡ s.ticks + ticks_of e → s.ticks ≤ max first until → now ≤ max first until
within_bound c protected s m first until now Ticked is below ticks le = let lt = below (ticked_at c protected s m _ (sym is)) in let r = le-max_right first until in omega (arith, lt, ticks, r)
within_bound c protected s m first until now Ran is below ticks le = omega (arith, ticks, le)
within_bound c protected s m first until now (WriteFault p) is below ticks le = omega (arith, ticks, le)
within_bound c protected s m first until now (Out b) is below ticks le = omega (arith, ticks, le)
within_bound c protected s m first until now (OutNumber v) is below ticks le = omega (arith, ticks, le)
within_bound c protected s m first until now WantsInput is below ticks le = omega (arith, ticks, le)
within_bound c protected s m first until now (Checkpoint k) is below ticks le = omega (arith, ticks, le)
within_bound c protected s m first until now (Exclude k) is below ticks le = omega (arith, ticks, le)
within_bound c protected s m first until now (Ended v) is below ticks le = omega (arith, ticks, le)
within_bound c protected s m first until now (Trapped k) is below ticks le = omega (arith, ticks, le)

-- what holds of a run of so many instructions from v over m to the bound, whose last one answered this and left w over n
pub record Holds (c : CodeView) (pages : PageStates) (until : ℕ) (v : MachineView) (m : List ℕ) (count : ℕ) (last : Option Event) (w : MachineView) (n : List ℕ) : Type 0 where
  pub live : w.live ≡ live_behind (told last)
  pub stands : StandsIn c w
  pub size : length n ≡ length m
  pub spared : (cell : ℕ) → is_protected pages (cell / 512) ≡ true → slice_index n cell ≡ slice_index m cell
  pub within : w.state.ticks ≤ max v.state.ticks until
  pub goes : GoesOn c (is_protected pages) v.state m (told last) w.state n
  pub counted : goes.count ≡ count
  pub answer : Answers c pages w.state n (told last)
  pub paid : rest c until w.state + count ≤ rest c until v.state
  pub shrinks : Shrinks c until v.state last w.state
  pub stopped : last ≡ None → (slice_get c.instrs w.state.place ≡ Some Tick) × (until ≤ w.state.ticks)

-- before the first instruction
pub first_holds : (c : CodeView) (pages : PageStates) (until : ℕ) (v : MachineView) (m : List ℕ) → v.live ≡ true → StandsIn c v → Holds c pages until v m 0 (Some Ran) v m
unfolding stays_here stored_alone
first_holds c pages until v m live stands = record {
  live = live;
  stands = stands;
  size = refl;
  spared = λ cell p. refl;
  within = le-max_left v.state.ticks until;
  goes = stays_here c (is_protected pages) v.state m;
  counted = refl;
  answer = tt;
  paid = omega arith;
  shrinks = refl_le (rest c until v.state);
  stopped = λ e. absurd (let f : Some Ran ≡ None = e in cc);
}

module _ (c : CodeView) (pages : PageStates) (until : ℕ) (v : MachineView) (m : List ℕ) (count : ℕ) (w : MachineView) (n : List ℕ) where
  told_none : (last : Option Event) → ((last ≡ Some Ran) ⊎ (last ≡ Some Ticked)) → told last ≡ None
  told_none last on = ⊎_elim (λ e. ap told e) (λ e. ap told e) on

  -- the run stopped before a tick
  stopped_holds : (last : Option Event) → told last ≡ None → Holds c pages until v m count last w n → (slice_get c.instrs w.state.place ≡ Some Tick) × (until ≤ w.state.ticks) → Holds c pages until v m count None w n
  unfolding retold
  stopped_holds last none held at = record {
    live = held.live ∙ ap live_behind none;
    stands = held.stands;
    size = held.size;
    spared = held.spared;
    within = held.within;
    goes = retold c (is_protected pages) v.state m (told last) None w.state n none held.goes;
    counted = held.counted;
    answer = tt;
    paid = held.paid;
    shrinks = let p = held.paid in omega (arith, p);
    stopped = λ e. at;
  }

  -- one more instruction
  pub holds_after : (last : Option Event) → ((last ≡ Some Ran) ⊎ (last ≡ Some Ticked)) → Holds c pages until v m count last w n → (now : Option Event) (x : MachineView) (k : List ℕ) → IfSome now (λ e. Stepped c pages w n e x k) → IfSome now (λ e. slice_get c.instrs w.state.place ≡ Some Tick → w.state.ticks < until) → (IsNone now → (slice_get c.instrs w.state.place ≡ Some Tick) × (until ≤ w.state.ticks) × (x ≡ w) × (k ≡ n)) → Holds c pages until v m (count + done_of now) now x k
  unfolding goes_further retold
  holds_after last on held None x k did below stop =
      let at = stop refl in
      let none : count ≡ count + 0 = omega arith in
      subst (λ i. Holds c pages until v m i None x k) none
      (subst (λ y. Holds c pages until v m count None y k) (sym at.2) (subst (λ y. Holds c pages until v m count None w y) (sym at.3) (stopped_holds last (told_none last on) held (at.0, at.1))))
  holds_after last on held (Some e) x k did below stop =
      let before = retold c (is_protected pages) v.state m (told last) None w.state n (told_none last on) held.goes in
      let pay = pays c until (is_protected pages) w.state n x.state e (leaves c until (is_protected pages) w.state n x.state k e did.event below did.falls did.still did.ticked did.limited) in
      let all : rest c until x.state + (count + done_by e) ≤ rest c until v.state = let p = held.paid in omega (arith, p, pay) in
      record {
        live = did.live ∙ live_as_told e;
        stands = did.stands;
        size = did.size ∙ held.size;
        spared = λ cell p. did.spared cell p ∙ held.spared cell p;
        within = within_bound c (is_protected pages) w.state n v.state.ticks until x.state.ticks e did.event below did.ticked held.within;
        goes = goes_further c (is_protected pages) v.state m w.state n (telling e) x.state k before did.shows;
        counted = let a = held.counted in let b = did.counted in omega (arith, a, b);
        answer = did.answer;
        paid = all;
        shrinks = shrinks c until (count + done_by e) v.state x.state (Some e) all (omega arith);
        stopped = λ f. absurd (let g : Some e ≡ None = f in cc);
      }

-- ---- runs of a number of instructions

-- one that goes on was done
pub done_on : (last : Option Event) → ((last ≡ Some Ran) ⊎ (last ≡ Some Ticked)) → done_of last ≡ 1
done_on last on = ⊎_elim (λ e. ap done_of e) (λ e. ap done_of e) on

-- where nothing is told, the run stopped before a tick, or would go on
silent : (last : Option Event) → told last ≡ None → (last ≡ None) ⊎ (done_of last ≡ 1)
silent None e = inl refl
silent (Some Ran) e = inr refl
silent (Some Ticked) e = inr refl
silent (Some (WriteFault p)) e = absurd (cc)
silent (Some (Out b)) e = absurd (cc)
silent (Some (OutNumber v)) e = absurd (cc)
silent (Some WantsInput) e = absurd (cc)
silent (Some (Checkpoint k)) e = absurd (cc)
silent (Some (Exclude k)) e = absurd (cc)
silent (Some (Ended v)) e = absurd (cc)
silent (Some (Trapped k)) e = absurd (cc)

-- then no instruction is left, or the next would take a tick past the bound
pub stopped_for : (c : CodeView) (pages : PageStates) (until : ℕ) (v : MachineView) (m : List ℕ) (count : ℕ) (w : MachineView) (n : List ℕ) (last : Option Event) (left back : ℕ) → Holds c pages until v m count last w n → told last ≡ None → back + done_of last ≡ 1 → ((left ≡ 0) ⊎ (told last ≡ last)) → (left + back ≡ 0) ⊎ ((slice_get c.instrs w.state.place ≡ Some Tick) × (until ≤ w.state.ticks))
stopped_for c pages until v m count w n last left back held none one over =
    ⊎_elim
    (λ at. inr (held.stopped at))
    (λ did. ⊎_elim (λ zero_left. inl (omega (arith, zero_left, one, did))) (λ same. inr (held.stopped (sym same ∙ none))) over)
    (silent last none)
