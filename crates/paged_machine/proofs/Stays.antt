-- A machine that stands in a valid code is ready for its next instruction, and still stands in it after that.
use Rattle.std.proofs.Common.{◌≡◌, ℕ, zero, suc, ◌+◌, ◌-◌, ◌*◌, ◌/◌, ◌<◌, ◌≤◌, List, [], ◌∷◌, ◌++◌, length, drop, take, reverse, replicate, Option, Some, None, Result, Ok, Err, Bool, true, false, cond, refl, sym, ap, ◌∙◌, subst, arith, length-drop, length-append, length-take-le}
use Rattle.std.specs.Prelude.{slice_get, slice_set, slice_index, nat_lt}
use Rattle.std.proofs.Math.ListN.{length-set}
use Rattle.std.proofs.lemmas.Option.{slice_get_within}
use Rattle.std.proofs.lemmas.Grind.{common_steps}
use Rattle.std.proofs.lemmas.Bool.Decides.{nat_tests}
use Rattle.ckpt_base.specs.declared.trap.Trap.{Trap}
use Rattle.ckpt_base.specs.Word.{word_holds}
use Rattle.machine_code.specs.declared.instr.Instr.{Instr}
use Rattle.machine_code.specs.declared.instr.Instr.TheVariants.{Tick, Num, Addr, LoadC, StoreC, LoadL, StoreL, Move, Back, Fetch, Put, Add, Sub, Mul, Div, Rem, Shl, Shr, And, Or, Xor, Neg, Not, Inv, Test, Eq, Ne, Lt, Le, Gt, Ge, Jump, JumpZ, Call, Ret, Drop, OutC, OutB, OutN, In, Ckpt, Excl}
use Rattle.machine_code.specs.declared.event.Caller.{Caller}
use Rattle.machine_code.specs.declared.event.Event.TheVariants.{WriteFault, Ran}
use Rattle.machine_code.specs.CodeView.{CodeView, Function, start, parameters, locals, locals_at, locals_from, most_locals}
use Rattle.machine_code.specs.Needs.{needs, gives, parameters_of}
use Rattle.machine_code.specs.Valid.{IsFunction, AreDepths, Stands, StandsAt, IsNext}
use Rattle.machine_code.specs.Memory.{FitsMemory, CellWithin}
use Rattle.machine_code.specs.State.{top, given, spent}
use Rattle.machine_code.specs.Row.{row, answered, stored, fetched, put, called, entered, returned, ran, trapped}
use Rattle.paged_machine.specs.MachineView.{MachineView, after_done}
use Rattle.paged_machine.specs.Standing.{IsAt, CallersStand, StandsBy}
use Rattle.paged_machine.specs.Ready.{Ready, Named}
use Rattle.paged_machine.proofs.Homes.{all_at, locals_start, locals_most, locals_of_most}

pub some_at : {X : Type 0} (xs : List X) (k : ℕ) → k < length xs → (x : X) × (slice_get xs k ≡ Some x)
some_at [] k h = absurd (omega arith)
some_at (x ∷ xs) zero h = (x, refl)
some_at (x ∷ xs) (suc k) h = some_at xs k (omega arith)

times : (a b k : ℕ) → a ≤ b → a * k ≤ b * k
times a b k h = grind arith

pub stands_there : (c : CodeView) (ds : List ℕ) (p : ℕ) (i : Instr) → AreDepths c ds → slice_get c.instrs p ≡ Some i → Stands c ds p i
unfolding StandsAt
stands_there c ds p i a at = a.stands p (slice_get_within c.instrs p i at) i at

-- where the current call stands it has few operands and locals
few_at : (c : CodeView) (ds : List ℕ) (p n m : ℕ) → AreDepths c ds → IsAt c ds p n m → (n ≤ c.stack) × (m ≤ most_locals c.functions)
few_at c ds p n m a at =
    let i = some_at c.instrs p at.within in
    let s = stands_there c ds p i.0 a i.1 in
    (omega (arith, s.few, at.operands), omega (arith, locals_most c.functions (Rattle.machine_code.specs.CodeView.home c.functions p), at.locals))

-- the operands and locals of the callers are few
callers_few : (c : CodeView) (ds : List ℕ) (ks : List Caller) (b m : ℕ) → AreDepths c ds → CallersStand c ds ks b m → (b ≤ length ks * c.stack) × (m ≤ length ks * most_locals c.functions)
callers_few c ds [] b m a h = (omega (arith, h.0), omega (arith, h.1))
callers_few c ds (k ∷ ks) b m a h =
    let r = callers_few c ds ks k.below k.locals_below a h.3 in
    let f = few_at c ds k.place (b - k.below + 1) (m - k.locals_below) a h.2 in
    let b0 = h.0 in let m0 = h.1 in
    let rb = r.0 in let rm = r.1 in let fb = f.0 in let fm = f.1 in
    let eb : suc (length ks) * c.stack ≡ c.stack + length ks * c.stack = omega arith in
    let em : suc (length ks) * most_locals c.functions ≡ most_locals c.functions + length ks * most_locals c.functions = omega arith in
    (omega arith, omega arith)

-- where an instruction goes on the current call has the same locals
next_is : (c : CodeView) (ds : List ℕ) (p q n m : ℕ) → locals_at c p ≡ m → IsNext c ds p n q → IsAt c ds q n m
next_is c ds p q n m e x = record { within = x.within; operands = x.depth; locals = ap (locals_from c.functions) x.same ∙ e }

few_next : (c : CodeView) (ds : List ℕ) (p n q : ℕ) → AreDepths c ds → IsNext c ds p n q → n ≤ c.stack
few_next c ds p n q a x = let i = some_at c.instrs q x.within in omega (arith, x.depth, (stands_there c ds q i.0 a i.1).few)

-- after an instruction there are no more operands than the code says
few_after : (c : CodeView) (ds : List ℕ) (p : ℕ) (i : Instr) → AreDepths c ds → Stands c ds p i → slice_index ds p + gives i ≤ c.stack + needs c i
few_after c ds p Ret a fine = omega (arith, fine.few, fine.enough)
few_after c ds p (Jump t) a fine = omega (arith, fine.few)
few_after c ds p (JumpZ t) a fine = omega (arith, fine.few)
few_after c ds p i a fine = omega (arith, fine.enough, few_next c ds p _ (p + 1) a fine.next)

pub is_below : (a b : ℕ) → nat_lt a b ≡ true → a < b
is_below a b e = grind (arith, nat_tests)

module _ (c : CodeView) (ds : List ℕ) (v : MachineView) where
  abbrev Here : Instr → Type 0
  Here i = Stands c ds v.state.place i

  pub has : StandsBy c ds v → (k : ℕ) → k ≤ slice_index ds v.state.place → k + v.state.below ≤ length v.state.operands
  has fit k h = omega (arith, fit.here.operands, fit.below)

  locals_few : StandsBy c ds v → length v.state.callers < 1000 → (m : ℕ) → m ≤ most_locals c.functions → length v.state.locals + m ≤ v.local_room
  locals_few fit lt m le =
      let few = (callers_few c ds v.state.callers v.state.below v.state.locals_below fit.depths fit.callers).1 in
      let most = (few_at c ds v.state.place _ _ fit.depths fit.here).1 in
      let t = times (length v.state.callers) 999 (most_locals c.functions) (omega arith) in
      omega (arith, few, most, fit.locals_below, fit.local_room, t)

  named : (n : ℕ) → FitsMemory c n → (i : Instr) → slice_get c.instrs v.state.place ≡ Some i → StandsBy c ds v → Here i → Named c v n i
  named n mem (Addr o) at fit fine = let h = fine.names in let f = fit.valid.objects in omega arith
  named n mem (LoadC cell) at fit fine = all_at (CellWithin n) c.instrs v.state.place (LoadC cell) mem.cells at
  named n mem (StoreC cell) at fit fine = all_at (CellWithin n) c.instrs v.state.place (StoreC cell) mem.cells at
  named n mem (LoadL i) at fit fine = let h = fine.names in let b = fit.locals_below in let l = fit.here.locals in omega arith
  named n mem (StoreL i) at fit fine = let h = fine.names in let b = fit.locals_below in let l = fit.here.locals in omega arith
  named n mem (Call f) at fit fine = (fine.names, λ g e. ((all_at (IsFunction c) c.functions f g fit.valid.functions e).parameters, λ lt. locals_few fit lt (locals g) (locals_of_most c.functions f g e)))
  named n mem Ret at fit fine = fit.locals_below
  named n mem i at fit fine = tt

  -- there is room for what an instruction leaves
  room_after : (i : Instr) → StandsBy c ds v → Here i → length v.state.operands + gives i ≤ v.operand_room + needs c i
  room_after i fit fine =
      let few = (callers_few c ds v.state.callers v.state.below v.state.locals_below fit.depths fit.callers).0 in
      let t = times (length v.state.callers) 1000 c.stack fit.calls in
      omega (arith, few_after c ds v.state.place i fit.depths fine, fine.enough, fit.here.operands, fit.below, few, t, fit.operand_room)

  pub room_for : (i : Instr) → StandsBy c ds v → slice_get c.instrs v.state.place ≡ Some i → length v.state.operands + gives i ≤ v.operand_room + needs c i
  room_for i fit e = room_after i fit (stands_there c ds v.state.place i fit.depths e)

  is_ready : (n : ℕ) → FitsMemory c n → (i : Instr) → StandsBy c ds v → slice_get c.instrs v.state.place ≡ Some i → Ready c v n i
  is_ready n mem i fit e =
      let fine = stands_there c ds v.state.place i fit.depths e in
      let within = slice_get_within c.instrs v.state.place i e in
      record {
        here = e;
        within = within;
        enough = has fit (needs c i) fine.enough;
        room = room_after i fit fine;
        named = named n mem i e fit fine;
        objects = mem.objects;
      }

  -- the instruction at the place, for which the machine is ready
  pub any_ready : (n : ℕ) → FitsMemory c n → StandsBy c ds v → (i : Instr) × Ready c v n i
  any_ready n mem fit =
      let a = some_at c.instrs v.state.place fit.here.within in
      (a.0, is_ready n mem a.0 fit a.1)

  pub moves : StandsBy c ds v → (p : ℕ) (ops ls : List ℕ) (t : ℕ) (l : Bool) → v.state.below ≤ length ops → length ls ≡ length v.state.locals → IsAt c ds p (length ops - v.state.below) (length v.state.locals - v.state.locals_below) → StandsBy c ds (record v { state = record v.state { place = p; operands = ops; locals = ls; ticks = t }; live = l })
  moves fit p ops ls t l le len at = record {
    valid = fit.valid;
    depths = fit.depths;
    below = le;
    locals_below = omega (arith, fit.locals_below);
    here = subst (λ k. IsAt c ds p (length ops - v.state.below) (k - v.state.locals_below)) (sym len) at;
    callers = fit.callers;
    calls = fit.calls;
    operand_room = fit.operand_room;
    local_room = fit.local_room;
  }

  next_at : StandsBy c ds v → (q n : ℕ) → IsNext c ds v.state.place n q → IsAt c ds q n (length v.state.locals - v.state.locals_below)
  next_at fit q n x = next_is c ds v.state.place q n _ fit.here.locals x

  pub given_fits : StandsBy c ds v → (k w : ℕ) → k + v.state.below ≤ length v.state.operands → IsNext c ds v.state.place (slice_index ds v.state.place - k + 1) (v.state.place + 1) → StandsBy c ds (record v { state = given v.state k w; live = v.live })
  given_fits fit k w le x =
      let e : slice_index ds v.state.place - k + 1 ≡ length (w ∷ drop k v.state.operands) - v.state.below = omega (arith, length-drop k v.state.operands, fit.here.operands) in
      moves fit (v.state.place + 1) (w ∷ drop k v.state.operands) v.state.locals v.state.ticks v.live (omega (arith, length-drop k v.state.operands)) refl
      (subst (λ d. IsAt c ds (v.state.place + 1) d (length v.state.locals - v.state.locals_below)) e (next_at fit (v.state.place + 1) _ x))

  spent_fits : StandsBy c ds v → (p k : ℕ) (ls : List ℕ) (t : ℕ) → length ls ≡ length v.state.locals → k + v.state.below ≤ length v.state.operands → IsNext c ds v.state.place (slice_index ds v.state.place - k + 0) p → StandsBy c ds (record v { state = record v.state { place = p; operands = drop k v.state.operands; locals = ls; ticks = t }; live = v.live })
  spent_fits fit p k ls t len le x =
      let e : slice_index ds v.state.place - k + 0 ≡ length (drop k v.state.operands) - v.state.below = omega (arith, length-drop k v.state.operands, fit.here.operands) in
      moves fit p (drop k v.state.operands) ls t v.live (omega (arith, length-drop k v.state.operands)) len
      (subst (λ d. IsAt c ds p d (length v.state.locals - v.state.locals_below)) e (next_at fit p _ x))

  over_fits : StandsBy c ds v → StandsBy c ds (record v { live = false })
  over_fits fit = moves fit v.state.place v.state.operands v.state.locals v.state.ticks false fit.below refl fit.here

  answered_fits : StandsBy c ds v → (m : List ℕ) (k : ℕ) (a : Result ℕ Trap) → k + v.state.below ≤ length v.state.operands → IsNext c ds v.state.place (slice_index ds v.state.place - k + 1) (v.state.place + 1) → StandsBy c ds (after_done v (answered v.state m k a))
  answered_fits fit m k (Ok w) le x = given_fits fit k w le x
  answered_fits fit m k (Err t) le x = over_fits fit

  stored_fits : StandsBy c ds v → (protected : ℕ → Bool) (m : List ℕ) (k cell w : ℕ) → k + v.state.below ≤ length v.state.operands → IsNext c ds v.state.place (slice_index ds v.state.place - k + 0) (v.state.place + 1) → StandsBy c ds (after_done v (stored protected v.state m k cell w))
  stored_fits fit protected m k cell w le x = by_test (protected (cell / 512))
    where
      by_test : (b : Bool) → StandsBy c ds (after_done v (cond b (record { state = v.state; memory = m; event = WriteFault (cell / 512); shown = [] }) (record { state = spent v.state k; memory = slice_set m cell w; event = Ran; shown = Rattle.ckpt_base.specs.Event.Wrote cell ∷ [] })))
      by_test true = fit
      by_test false = spent_fits fit (v.state.place + 1) k v.state.locals v.state.ticks refl le x

  fetched_fits : StandsBy c ds v → (m : List ℕ) (a : Result ℕ Trap) → 1 + v.state.below ≤ length v.state.operands → IsNext c ds v.state.place (slice_index ds v.state.place - 1 + 1) (v.state.place + 1) → StandsBy c ds (after_done v (fetched v.state m a))
  fetched_fits fit m (Ok w) le x = given_fits fit 1 _ le x
  fetched_fits fit m (Err t) le x = over_fits fit

  put_fits : StandsBy c ds v → (protected : ℕ → Bool) (m : List ℕ) (a : Result ℕ Trap) → 2 + v.state.below ≤ length v.state.operands → IsNext c ds v.state.place (slice_index ds v.state.place - 2 + 0) (v.state.place + 1) → StandsBy c ds (after_done v (put protected v.state m a))
  put_fits fit protected m (Ok cell) le x = stored_fits fit protected m 2 cell _ le x
  put_fits fit protected m (Err t) le x = over_fits fit

  entered_fits : StandsBy c ds v → (f : ℕ) (g : Function) → slice_get c.functions f ≡ Some g → length v.state.callers < 1000 → parameters g ≤ slice_index ds v.state.place → IsNext c ds v.state.place (slice_index ds v.state.place - parameters g + 1) (v.state.place + 1) → StandsBy c ds (record v { state = entered v.state g; live = v.live })
  entered_fits fit f g e lt le x =
      let ops = v.state.operands in
      let p = parameters g in
      let is = all_at (IsFunction c) c.functions f g fit.valid.functions e in
      let level : slice_index ds (start g) ≡ 0 = all_at (λ h. slice_index ds (start h) ≡ 0) c.functions f g fit.depths.starts e in
      let pl = is.parameters in
      let args = reverse (take p ops) ++ replicate (locals g - p) 0 in
      let enough = has fit p le in
      let la : length args ≡ locals g = grind (arith, common_steps) in
      let ld = length-drop p ops in
      let ll = length-append v.state.locals args in
      let ed : slice_index ds (start g) ≡ length (drop p ops) - (length ops - p) = omega arith in
      let el : locals_at c (start g) ≡ length (v.state.locals ++ args) - length v.state.locals = locals_start c f g fit.valid e ∙ omega arith in
      let d = fit.here.operands in
      let eb : slice_index ds v.state.place - p + 1 ≡ length ops - p - v.state.below + 1 = omega arith in
      record {
        valid = fit.valid;
        depths = fit.depths;
        below = omega arith;
        locals_below = omega arith;
        here = record { within = is.within; operands = ed; locals = el };
        callers = (omega arith, fit.locals_below, subst (λ d. IsAt c ds (v.state.place + 1) d (length v.state.locals - v.state.locals_below)) eb (next_at fit (v.state.place + 1) _ x), fit.callers);
        calls = lt;
        operand_room = fit.operand_room;
        local_room = fit.local_room;
      }

  returned_fits : StandsBy c ds v → (m : List ℕ) (ks : List Caller) → CallersStand c ds ks v.state.below v.state.locals_below → length ks ≤ 1000 → StandsBy c ds (after_done v (returned v.state m ks))
  returned_fits fit m [] h le = over_fits fit
  returned_fits fit m (k ∷ ks) h le =
      let ops = v.state.operands in
      let rest = drop (length ops - v.state.below) ops in
      let ld = length-drop (length ops - v.state.below) ops in
      let fb = fit.below in let fl = fit.locals_below in let kb = h.0 in let kl = h.1 in
      let lt : length (take v.state.locals_below v.state.locals) ≡ v.state.locals_below = length-take-le v.state.locals_below v.state.locals fl in
      let ed : v.state.below - k.below + 1 ≡ suc (length rest) - k.below = omega arith in
      let el : v.state.locals_below - k.locals_below ≡ length (take v.state.locals_below v.state.locals) - k.locals_below = ap (λ i. i - k.locals_below) (sym lt) in
      record {
        valid = fit.valid;
        depths = fit.depths;
        below = omega arith;
        locals_below = omega arith;
        here = subst (λ l. IsAt c ds k.place (suc (length rest) - k.below) l) el (subst (λ d. IsAt c ds k.place d (v.state.locals_below - k.locals_below)) ed h.2);
        callers = h.3;
        calls = omega arith;
        operand_room = fit.operand_room;
        local_room = fit.local_room;
      }

  called_fits : StandsBy c ds v → (m : List ℕ) (f : ℕ) → Here (Call f) → (o : Option Function) → slice_get c.functions f ≡ o → StandsBy c ds (after_done v (called v.state m o))
  called_fits fit m f fine None e = over_fits fit
  called_fits fit m f fine (Some g) e = by_test (nat_lt (length v.state.callers) 1000) refl
    where
      by_test : (b : Bool) → nat_lt (length v.state.callers) 1000 ≡ b → StandsBy c ds (after_done v (cond b (ran (entered v.state g) m) (trapped v.state m Rattle.ckpt_base.specs.declared.trap.Trap.TheVariants.TooManyCalls)))
      by_test true q =
          let le : parameters g ≤ slice_index ds v.state.place = subst (λ o. parameters_of o ≤ slice_index ds v.state.place) e fine.enough in
          let x = subst (λ o. IsNext c ds v.state.place (slice_index ds v.state.place - parameters_of o + 1) (v.state.place + 1)) e fine.next in
          entered_fits fit f g e (is_below (length v.state.callers) 1000 q) le x
      by_test false q = over_fits fit

  kept : (protected : ℕ → Bool) (m : List ℕ) (i : Instr) → StandsBy c ds v → Here i → StandsBy c ds (after_done v (row c protected v.state m i))
  kept protected m Tick fit fine = let b = fit.below in spent_fits fit (v.state.place + 1) 0 v.state.locals (v.state.ticks + 1) refl (omega arith) fine.next
  kept protected m (Num v) fit fine = given_fits fit 0 _ (has fit _ fine.enough) fine.next
  kept protected m (Addr o) fit fine = given_fits fit 0 _ (has fit _ fine.enough) fine.next
  kept protected m (LoadC cell) fit fine = given_fits fit 0 _ (has fit _ fine.enough) fine.next
  kept protected m (LoadL i) fit fine = given_fits fit 0 _ (has fit _ fine.enough) fine.next
  kept protected m (StoreC cell) fit fine = stored_fits fit protected m 1 cell _ (has fit _ fine.enough) fine.next
  kept protected m (StoreL i) fit fine = spent_fits fit (v.state.place + 1) 1 (slice_set v.state.locals (v.state.locals_below + i) (top v.state 0)) v.state.ticks (length-set v.state.locals (v.state.locals_below + i) (top v.state 0)) (has fit _ fine.enough) fine.next
  kept protected m Move fit fine = answered_fits fit m 2 _ (has fit _ fine.enough) fine.next
  kept protected m Back fit fine = answered_fits fit m 2 _ (has fit _ fine.enough) fine.next
  kept protected m Div fit fine = answered_fits fit m 2 _ (has fit _ fine.enough) fine.next
  kept protected m Rem fit fine = answered_fits fit m 2 _ (has fit _ fine.enough) fine.next
  kept protected m Shl fit fine = answered_fits fit m 2 _ (has fit _ fine.enough) fine.next
  kept protected m Shr fit fine = answered_fits fit m 2 _ (has fit _ fine.enough) fine.next
  kept protected m Fetch fit fine = fetched_fits fit m _ (has fit _ fine.enough) fine.next
  kept protected m Put fit fine = put_fits fit protected m _ (has fit _ fine.enough) fine.next
  kept protected m Add fit fine = given_fits fit 2 _ (has fit _ fine.enough) fine.next
  kept protected m Sub fit fine = given_fits fit 2 _ (has fit _ fine.enough) fine.next
  kept protected m Mul fit fine = given_fits fit 2 _ (has fit _ fine.enough) fine.next
  kept protected m And fit fine = given_fits fit 2 _ (has fit _ fine.enough) fine.next
  kept protected m Or fit fine = given_fits fit 2 _ (has fit _ fine.enough) fine.next
  kept protected m Xor fit fine = given_fits fit 2 _ (has fit _ fine.enough) fine.next
  kept protected m Eq fit fine = given_fits fit 2 _ (has fit _ fine.enough) fine.next
  kept protected m Ne fit fine = given_fits fit 2 _ (has fit _ fine.enough) fine.next
  kept protected m Lt fit fine = given_fits fit 2 _ (has fit _ fine.enough) fine.next
  kept protected m Le fit fine = given_fits fit 2 _ (has fit _ fine.enough) fine.next
  kept protected m Gt fit fine = given_fits fit 2 _ (has fit _ fine.enough) fine.next
  kept protected m Ge fit fine = given_fits fit 2 _ (has fit _ fine.enough) fine.next
  kept protected m Neg fit fine = given_fits fit 1 _ (has fit _ fine.enough) fine.next
  kept protected m Not fit fine = given_fits fit 1 _ (has fit _ fine.enough) fine.next
  kept protected m Inv fit fine = given_fits fit 1 _ (has fit _ fine.enough) fine.next
  kept protected m Test fit fine = given_fits fit 1 _ (has fit _ fine.enough) fine.next
  kept protected m (Jump t) fit fine = let b = fit.below in spent_fits fit t 0 v.state.locals v.state.ticks refl (omega arith) fine.next
  kept protected m (JumpZ t) fit fine =
      let next : Bool → MachineView = λ b. record v { state = record v.state { place = cond b (v.state.place + 1) t; operands = drop 1 v.state.operands }; live = v.live } in
      let le = has fit 1 fine.enough in
      let both : (b : Bool) → StandsBy c ds (next b) =
      λ b. elim b as (λ b. StandsBy c ds (next b)) [ true ↦ spent_fits fit (v.state.place + 1) 1 v.state.locals v.state.ticks refl le fine.next.1 | false ↦ spent_fits fit t 1 v.state.locals v.state.ticks refl le fine.next.0 ] in
      both (word_holds (top v.state 0))
  kept protected m (Call f) fit fine = called_fits fit m f fine (slice_get c.functions f) refl
  kept protected m Ret fit fine = returned_fits fit m v.state.callers fit.callers fit.calls
  kept protected m Drop fit fine = spent_fits fit (v.state.place + 1) 1 v.state.locals v.state.ticks refl (has fit _ fine.enough) fine.next
  kept protected m OutC fit fine = spent_fits fit (v.state.place + 1) 1 v.state.locals v.state.ticks refl (has fit _ fine.enough) fine.next
  kept protected m (OutB b) fit fine = spent_fits fit (v.state.place + 1) 0 v.state.locals v.state.ticks refl (has fit _ fine.enough) fine.next
  kept protected m (Ckpt k) fit fine = spent_fits fit (v.state.place + 1) 0 v.state.locals v.state.ticks refl (has fit _ fine.enough) fine.next
  kept protected m (Excl k) fit fine = spent_fits fit (v.state.place + 1) 0 v.state.locals v.state.ticks refl (has fit _ fine.enough) fine.next
  kept protected m (OutN k) fit fine =
      let h = fine.enough in let b = fit.below in
      let d = slice_index ds v.state.place in
      let e : d - (k + 1) + (k + 1) ≡ d - 0 + 0 = omega arith in
      spent_fits fit (v.state.place + 1) 0 v.state.locals v.state.ticks refl (omega arith) (subst (λ i. IsNext c ds v.state.place i (v.state.place + 1)) e fine.next)
  kept protected m In fit fine = fit

  -- what a row leaves
  pub stays : (protected : ℕ → Bool) (m : List ℕ) (i : Instr) → StandsBy c ds v → slice_get c.instrs v.state.place ≡ Some i → StandsBy c ds (after_done v (row c protected v.state m i))
  stays protected m i fit e = kept protected m i fit (stands_there c ds v.state.place i fit.depths e)
