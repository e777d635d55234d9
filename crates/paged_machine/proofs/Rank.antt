-- Each instruction ends the run, takes a tick, asks for something, or brings the machine nearer to a tick.
use Rattle.std.proofs.Common.{◌≡◌, ℕ, zero, suc, ◌+◌, ◌-◌, ◌*◌, ◌^◌, ◌/◌, ◌<◌, ◌≤◌, List, [], ◌∷◌, length, drop, Option, Some, None, Result, Ok, Err, Bool, true, false, cond, refl, sym, ap, ◌∙◌, subst, inl, inr, ⊎_elim, arith}
use Rattle.std.specs.Prelude.{slice_get, slice_set, slice_index, nat_lt}
use Rattle.std.proofs.Math.Nat.{mul-le-mul, mul-le-mul_right, pow-succ', pow-zero, pow-le-pow_right}
use Rattle.std.proofs.lemmas.Bool.{cases_lt}
use Rattle.ckpt_base.specs.declared.trap.Trap.{Trap}
use Rattle.ckpt_base.specs.declared.trap.Trap.TheVariants.{TooManyCalls}
use Rattle.ckpt_base.specs.Event as run
use Rattle.ckpt_base.specs.Word.{word_holds}
use Rattle.machine_code.specs.declared.instr.Instr.{Instr}
use Rattle.machine_code.specs.declared.instr.Instr.TheVariants.{Tick, StoreC, Move, Back, Fetch, Put, Div, Rem, Shl, Shr, Jump, JumpZ, Call, Ret, In}
use Rattle.machine_code.specs.declared.event.Caller.{Caller}
use Rattle.machine_code.specs.declared.event.Event.TheVariants.{Ran, WriteFault}
use Rattle.machine_code.specs.CodeView.{CodeView, Function, start}
use Rattle.machine_code.specs.Valid.{IsNext, Stands}
use Rattle.machine_code.specs.State.{State, top, given, spent}
use Rattle.machine_code.specs.Row.{Done, row, answered, stored, fetched, put, called, entered, returned, ran, trapped}
use Rattle.paged_machine.specs.Rank.{counts, callers_count, rank, rank_limit, Nearer, Falls}
use Rattle.paged_machine.proofs.Stays.{is_below}

fewer : (a b w : ℕ) → a < b → 0 < w → a * w < b * w
fewer a b w h p = grind arith

power_pos : (n k : ℕ) → 0 < (n + 1) ^ k
power_pos n zero = let e = pow-zero (n + 1) in omega arith
power_pos n (suc k) =
    let h = power_pos n k in
    let e = pow-succ' (n + 1) k in
    let m : 0 * (n + 1) ^ k < (n + 1) * (n + 1) ^ k = fewer 0 (n + 1) ((n + 1) ^ k) (omega arith) h in
    omega arith

-- a later place counts less
later : (n p q d : ℕ) → p < q → p < n → counts n q d < counts n p d
later n p q d lt le = fewer (n - q) (n - p) ((n + 1) ^ (1000 - d)) (omega arith) (power_pos n (1000 - d))

-- a call counts less than the instruction that makes it
power_more : (n d : ℕ) → d < 1000 → (n + 1) ^ (1000 - d) ≡ (n + 1) * (n + 1) ^ (1000 - suc d)
power_more n d h = let e : 1000 - d ≡ suc (1000 - suc d) = omega arith in ap (λ k. (n + 1) ^ k) e ∙ pow-succ' (n + 1) (1000 - suc d)

one_less : (a b n w x : ℕ) → a ≤ n → 0 < w → x ≡ (n + 1) * w → a * w + b * x < suc b * x
one_less a b n w x le p e =
    let m = mul-le-mul_right w le in
    let s : suc b * x ≡ x + b * x = omega arith in
    let t : (n + 1) * w ≡ w + n * w = omega arith in
    omega arith

deeper : (n p q d : ℕ) → p < n → d < 1000 → counts n q (suc d) + counts n (p + 1) d < counts n p d
deeper n p q d le h =
    let w = (n + 1) ^ (1000 - suc d) in
    let x = (n + 1) ^ (1000 - d) in
    let less = one_less (n - q) (n - (p + 1)) n w x (omega arith) (power_pos n (1000 - suc d)) (power_more n d h) in
    let e : n - p ≡ suc (n - (p + 1)) = omega arith in
    subst (λ k. (n - q) * w + (n - (p + 1)) * x < k * x) (sym e) less

some_count : (n p d : ℕ) → p < n → 0 < counts n p d
some_count n p d le = let h = fewer 0 (n - p) ((n + 1) ^ (1000 - d)) (omega arith) (power_pos n (1000 - d)) in omega arith

abbrev stored_by : State → List ℕ → ℕ → ℕ → ℕ → Bool → Done
stored_by s m k cell v b = cond b (record { state = s; memory = m; event = WriteFault (cell / 512); shown = [] }) (record { state = spent s k; memory = slice_set m cell v; event = Ran; shown = run.Wrote cell ∷ [] })

module _ (c : CodeView) (s : State) where
  -- on to a later place of the same call
  nearer_later : (q : ℕ) (ops ls : List ℕ) → s.place < length c.instrs → s.place < q → Nearer c s (record s { place = q; operands = ops; locals = ls })
  nearer_later q ops ls le lt = inr (let h = later (length c.instrs) s.place q (length s.callers) lt le in omega arith)

  pub nearer_given : (n w : ℕ) → s.place < length c.instrs → Nearer c s (given s n w)
  nearer_given n w le = nearer_later (s.place + 1) (w ∷ drop n s.operands) s.locals le (omega arith)

  jumps : (ds : List ℕ) (n q : ℕ) (ops : List ℕ) → s.place < length c.instrs → IsNext c ds s.place n q → Nearer c s (record s { place = q; operands = ops })
  jumps ds n q ops le x = ⊎_elim (λ lt. nearer_later q ops s.locals le lt) (λ ge. inl (x.back ge)) (cases_lt s.place q)

  answers : (m : List ℕ) (k : ℕ) (a : Result ℕ Trap) → s.place < length c.instrs → Falls c s (answered s m k a).event (answered s m k a).state
  answers m k (Ok v) le = nearer_given k v le
  answers m k (Err t) le = tt

  fetches : (m : List ℕ) (a : Result ℕ Trap) → s.place < length c.instrs → Falls c s (fetched s m a).event (fetched s m a).state
  fetches m (Ok v) le = nearer_given 1 (slice_index m v) le
  fetches m (Err t) le = tt

  stores : (protected : ℕ → Bool) (m : List ℕ) (k cell v : ℕ) → s.place < length c.instrs → Falls c s (stored protected s m k cell v).event (stored protected s m k cell v).state
  stores protected m k cell v le = by_test (protected (cell / 512))
    where
      by_test : (b : Bool) → Falls c s (stored_by s m k cell v b).event (stored_by s m k cell v b).state
      by_test true = refl
      by_test false = nearer_later (s.place + 1) (drop k s.operands) s.locals le (omega arith)

  puts : (protected : ℕ → Bool) (m : List ℕ) (a : Result ℕ Trap) → s.place < length c.instrs → Falls c s (put protected s m a).event (put protected s m a).state
  puts protected m (Ok v) le = stores protected m 2 v (top s 0) le
  puts protected m (Err t) le = tt

  calls : (m : List ℕ) (o : Option Function) → s.place < length c.instrs → Falls c s (called s m o).event (called s m o).state
  calls m None le = tt
  calls m (Some f) le = by_test (nat_lt (length s.callers) 1000) refl
    where
      by_test : (b : Bool) → nat_lt (length s.callers) 1000 ≡ b → Falls c s (cond b (ran (entered s f) m) (trapped s m TooManyCalls)).event (cond b (ran (entered s f) m) (trapped s m TooManyCalls)).state
      by_test true q = inr (let h = deeper (length c.instrs) s.place (start f) (length s.callers) le (is_below (length s.callers) 1000 q) in omega arith)
      by_test false q = tt

  returns : (m : List ℕ) (ks : List Caller) → ks ≡ s.callers → s.place < length c.instrs → Falls c s (returned s m ks).event (returned s m ks).state
  returns m [] e le = tt
  returns m (k ∷ ks) e le =
      let p = some_count (length c.instrs) s.place (length s.callers) le in
      let r : callers_count (length c.instrs) s.callers ≡ callers_count (length c.instrs) (k ∷ ks) = ap (callers_count (length c.instrs)) (sym e) in
      inr (omega arith)

  pub falls : (ds : List ℕ) (protected : ℕ → Bool) (m : List ℕ) (i : Instr) → s.place < length c.instrs → Stands c ds s.place i → Falls c s (row c protected s m i).event (row c protected s m i).state
  falls ds protected m Tick le fine = tt
  falls ds protected m In le fine = refl
  falls ds protected m (Jump t) le fine = jumps ds _ t s.operands le fine.next
  falls ds protected m (JumpZ t) le fine =
      let next : Bool → State = λ b. record s { place = cond b (s.place + 1) t; operands = drop 1 s.operands } in
      let both : (b : Bool) → Nearer c s (next b) =
      λ b. elim b as (λ b. Nearer c s (next b)) [ true ↦ nearer_later (s.place + 1) (drop 1 s.operands) s.locals le (omega arith) | false ↦ jumps ds _ t (drop 1 s.operands) le fine.next.0 ] in
      both (word_holds (top s 0))
  falls ds protected m (Call f) le fine = calls m (slice_get c.functions f) le
  falls ds protected m Ret le fine = returns m s.callers refl le
  falls ds protected m Move le fine = answers m 2 _ le
  falls ds protected m Back le fine = answers m 2 _ le
  falls ds protected m Div le fine = answers m 2 _ le
  falls ds protected m Rem le fine = answers m 2 _ le
  falls ds protected m Shl le fine = answers m 2 _ le
  falls ds protected m Shr le fine = answers m 2 _ le
  falls ds protected m Fetch le fine = fetches m _ le
  falls ds protected m Put le fine = puts protected m _ le
  falls ds protected m (StoreC cell) le fine = stores protected m 1 cell (top s 0) le
  falls ds protected m i le fine = inr (let h = later (length c.instrs) s.place (s.place + 1) (length s.callers) (omega arith) le in omega arith)

-- ---- no rank is greater than the limit

least : (n p d : ℕ) → counts n p d ≤ n * (n + 1) ^ 1000
least n p d = mul-le-mul (n-p n p) (pow-le-pow_right (pos n) (few d))
  where
    n-p : (n p : ℕ) → n - p ≤ n
    n-p n p = omega arith

    pos : (n : ℕ) → 0 < n + 1
    pos n = omega arith

    few : (d : ℕ) → 1000 - d ≤ 1000
    few d = omega arith

all_callers : (n : ℕ) (ks : List Caller) → callers_count n ks ≤ length ks * (n * (n + 1) ^ 1000)
all_callers n [] = omega arith
all_callers n (k ∷ ks) =
    let h = least n k.place (length ks) in
    let r = all_callers n ks in
    let e : suc (length ks) * (n * (n + 1) ^ 1000) ≡ n * (n + 1) ^ 1000 + length ks * (n * (n + 1) ^ 1000) = grind arith in
    omega arith

pub limited : (c : CodeView) (s : State) → length s.callers ≤ 1000 → rank c s ≤ rank_limit c
limited c s le =
    let n = length c.instrs in
    let h = least n s.place (length s.callers) in
    let r = all_callers n s.callers in
    let m : length s.callers * (n * (n + 1) ^ 1000) ≤ 1000 * (n * (n + 1) ^ 1000) = mul-le-mul_right (n * (n + 1) ^ 1000) le in
    omega arith
