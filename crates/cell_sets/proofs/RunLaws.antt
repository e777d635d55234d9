-- Laws of rising runs.
use Rattle.std.proofs.Common.{ℕ, ◌+◌, ◌-◌, ◌<◌, ◌≤◌, ◌≡◌, Bool, true, false, ◌&&◌, ◌||◌, List, [], ◌∷◌, ◌++◌, arith, subst, sym, ap, ◌∙◌, refl, ltb, leb, eqb, length, take, get_or, zero, suc}
use Rattle.std.proofs.lemmas.Bool.Decides.{nat_tests}
use Rattle.cell_sets.specs.declared.runs.Run.{Run}
use Rattle.std.proofs.lemmas.Bool.{cases_lt}
use Rattle.std.proofs.lemmas.List.{get_or_past, take_more}
use Rattle.std.proofs.Common.{inl, inr}
use Rattle.cell_sets.specs.declared.sweep.Operation.{Operation}
use Rattle.cell_sets.specs.declared.sweep.Operation.TheVariants.{Union, Minus}
use Rattle.cell_sets.specs.Runs.{in_run, in_runs, IsRising}
use Rattle.cell_sets.specs.Sweep.{IsAhead, IsNear, kept}
use Rattle.cell_sets.specs.Sets.{Cells, has, passing}
use Rattle.cell_sets.proofs.SetLaws.{has-passing, has_seen}

pub low_within : (low : ℕ) (rs : List Run) (top : ℕ) → IsRising low rs top → low ≤ top
low_within low [] top h = h
low_within low (r ∷ rs) top h = let k = low_within (r.first + r.count + 1) rs top h.2 in omega arith

-- a cell below the first run is in none
pub before_runs : (low : ℕ) (rs : List Run) (top q : ℕ) → IsRising low rs top → q < low → in_runs rs q ≡ false
before_runs low [] top q h l = refl
before_runs low (r ∷ rs) top q h l =
    let k : in_runs rs q ≡ false = before_runs (r.first + r.count + 1) rs top q h.2 (omega arith) in
    let n : in_run r q ≡ false = grind (arith, nat_tests) in
    (λ i. n i || k i)

-- a cell from the top on is in none
pub past_runs : (low : ℕ) (rs : List Run) (top q : ℕ) → IsRising low rs top → top ≤ q + 1 → in_runs rs q ≡ false
past_runs low [] top q h l = refl
past_runs low (r ∷ rs) top q h l =
    let e = low_within (r.first + r.count + 1) rs top h.2 in
    let k : in_runs rs q ≡ false = past_runs (r.first + r.count + 1) rs top q h.2 l in
    let n : in_run r q ≡ false = grind (arith, nat_tests) in
    (λ i. n i || k i)

pub head_within : (left : List Run) (r : Run) (rest : List Run) (top : ℕ) → left ≡ r ∷ rest → (low : ℕ) × IsRising low left top → r.first + r.count + 1 ≤ top
head_within left r rest top e h =
    let k : (low : ℕ) × IsRising low (r ∷ rest) top = subst (λ (x : List Run). (low : ℕ) × IsRising low x top) e h in
    low_within (r.first + r.count + 1) rest top k.1.2

-- from inside the first run to its end all is in
pub inside_head : (left : List Run) (r : Run) (rest : List Run) (q : ℕ) → left ≡ r ∷ rest → r.first ≤ q → q < r.first + r.count → in_runs left q ≡ true
inside_head left r rest q e a b =
    let n : in_run r q ≡ true = grind (arith, nat_tests) in
    ap (λ x. in_runs x q) e ∙ (λ i. n i || in_runs rest q)

pub outside_head : (left : List Run) (r : Run) (rest : List Run) (top q : ℕ) → left ≡ r ∷ rest → (low : ℕ) × IsRising low left top → q < r.first → in_runs left q ≡ false
outside_head left r rest top q e h l =
    let k : (low : ℕ) × IsRising low (r ∷ rest) top = subst (λ (x : List Run). (low : ℕ) × IsRising low x top) e h in
    let n : in_run r q ≡ false = grind (arith, nat_tests) in
    let m : in_runs rest q ≡ false = before_runs (r.first + r.count + 1) rest top q k.1.2 (omega arith) in
    ap (λ x. in_runs x q) e ∙ (λ i. n i || m i)

-- past the end of the first run only the rest counts
pub past_head : (left : List Run) (r : Run) (rest : List Run) (q : ℕ) → left ≡ r ∷ rest → r.first + r.count ≤ q → in_runs rest q ≡ in_runs left q
past_head left r rest q e l =
    let n : in_run r q ≡ false = grind (arith, nat_tests) in
    (λ i. sym n i || in_runs rest q) ∙ sym (ap (λ x. in_runs x q) e)

pub rest_rising : (left : List Run) (r : Run) (rest : List Run) (top : ℕ) → left ≡ r ∷ rest → (low : ℕ) × IsRising low left top → (low : ℕ) × IsRising low rest top
rest_rising left r rest top e h =
    let k : (low : ℕ) × IsRising low (r ∷ rest) top = subst (λ (x : List Run). (low : ℕ) × IsRising low x top) e h in
    (r.first + r.count + 1, k.1.2)

-- the run after the first one is ahead of the first one's end
rest_ahead_at : (pos top low : ℕ) (rest : List Run) → pos < low → IsRising low rest top → IsAhead pos rest
rest_ahead_at pos top low [] l h = tt
rest_ahead_at pos top low (s ∷ rest) l h = omega arith

pub rest_ahead : (left : List Run) (r : Run) (rest : List Run) (top pos : ℕ) → left ≡ r ∷ rest → (low : ℕ) × IsRising low left top → IsNear pos left → IsAhead pos rest
rest_ahead left r rest top pos e h near =
    let k : (low : ℕ) × IsRising low (r ∷ rest) top = subst (λ (x : List Run). (low : ℕ) × IsRising low x top) e h in
    let n : IsNear pos (r ∷ rest) = subst (IsNear pos) e near in
    rest_ahead_at pos top (r.first + r.count + 1) rest (omega arith) k.1.2

pub ahead_at_start : (rs : List Run) (low top : ℕ) → IsRising low rs top → IsAhead low rs
ahead_at_start [] low top h = tt
ahead_at_start (r ∷ rs) low top h = omega arith

-- one more run at the end
pub rising_push : (low : ℕ) (rs : List Run) (r : Run) → IsRising low rs r.first → 0 < r.count → IsRising low (rs ++ r ∷ []) (r.first + r.count + 1)
rising_push low [] r h k = (h, k, omega arith)
rising_push low (s ∷ rs) r h k = (h.0, h.1, rising_push (s.first + s.count + 1) rs r h.2 k)

-- all but the last run
pub rising_front : (low : ℕ) (rs : List Run) (r : Run) (high : ℕ) → IsRising low (rs ++ r ∷ []) high → IsRising low rs r.first × (0 < r.count) × (r.first + r.count + 1 ≤ high)
rising_front low [] r high h = (h.0, h.1, h.2)
rising_front low (s ∷ rs) r high h = let k = rising_front (s.first + s.count + 1) rs r high h.2 in ((h.0, h.1, k.0), k.1, k.2)

pub rising_above : (low : ℕ) (rs : List Run) (high top : ℕ) → high ≤ top → IsRising low rs high → IsRising low rs top
rising_above low [] high top l h = omega arith
rising_above low (s ∷ rs) high top l h = (h.0, h.1, rising_above (s.first + s.count + 1) rs high top l h.2)

or_tail : (x y : Bool) → (x || (y || false)) ≡ (x || y)
or_tail true y = refl
or_tail false true = refl
or_tail false false = refl

or_or : (x y z : Bool) → (x || (y || z)) ≡ ((x || y) || z)
or_or true y z = refl
or_or false y z = refl

pub in_runs-push : (rs : List Run) (r : Run) (q : ℕ) → in_runs (rs ++ r ∷ []) q ≡ (in_runs rs q || in_run r q)
in_runs-push [] r q = or_tail false (in_run r q)
in_runs-push (s ∷ rs) r q = ap (λ b. in_run s q || b) (in_runs-push rs r q) ∙ or_or (in_run s q) (in_runs rs q) (in_run r q)

-- a run joined with one that begins at its end
pub in_run-joined : (r : Run) (to q : ℕ) → r.first + r.count ≤ to → in_run (record { first = r.first; count = r.count + (to - (r.first + r.count)) }) q ≡ (in_run r q || (leb (r.first + r.count) q && ltb q to))
in_run-joined r to q l = grind (arith, nat_tests)

pub front_of : (old front : List Run) (last : Run) (from : ℕ) → old ≡ front ++ last ∷ [] → IsRising 0 old (from + 1) → IsRising 0 front last.first × (0 < last.count) × (last.first + last.count + 1 ≤ from + 1)
front_of old front last from e h = rising_front 0 front last (from + 1) (subst (λ (x : List Run). IsRising 0 x (from + 1)) e h)

pub joined_rising : (old front new : List Run) (last : Run) (from to : ℕ) → old ≡ front ++ last ∷ [] → IsRising 0 old (from + 1) → last.first + last.count ≡ from → from < to → new ≡ front ++ record { first = last.first; count = last.count + (to - from) } ∷ [] → IsRising 0 new (to + 1)
joined_rising old front new last from to e h touch l n =
    let f = front_of old front last from e h in
    let r : Run = record { first = last.first; count = last.count + (to - from) } in
    let k : IsRising 0 (front ++ r ∷ []) (last.first + (last.count + (to - from)) + 1) = rising_push 0 front r f.0 (omega arith) in
    let m : IsRising 0 new (last.first + (last.count + (to - from)) + 1) = subst (λ (x : List Run). IsRising 0 x (last.first + (last.count + (to - from)) + 1)) (sym n) k in
    rising_above 0 new _ (to + 1) (omega arith) m

pub pushed_rising : (old front mid new : List Run) (last : Run) (from to : ℕ) → old ≡ front ++ last ∷ [] → IsRising 0 old (from + 1) → (last.first + last.count ≡ from → ⊥) → from < to → mid ≡ front ++ last ∷ [] → new ≡ mid ++ record { first = from; count = to - from } ∷ [] → IsRising 0 new (to + 1)
pushed_rising old front mid new last from to e h apart l m n =
    let f = front_of old front last from e h in
    let r : Run = record { first = from; count = to - from } in
    let k : IsRising 0 (front ++ last ∷ []) (last.first + last.count + 1) = rising_push 0 front last f.0 f.1 in
    let k2 : IsRising 0 mid from = subst (λ (x : List Run). IsRising 0 x from) (sym m) (rising_above 0 (front ++ last ∷ []) _ from (omega arith) k) in
    let k3 : IsRising 0 new (from + (to - from) + 1) = subst (λ (x : List Run). IsRising 0 x (from + (to - from) + 1)) (sym n) (rising_push 0 mid r k2 (omega arith)) in
    rising_above 0 new _ (to + 1) (omega arith) k3

or_false : (x : Bool) → (x || false) ≡ x
or_false true = refl
or_false false = refl

and_true : (x : Bool) → (x && true) ≡ x
and_true true = refl
and_true false = refl

and_false : (x : Bool) → (x && false) ≡ false
and_false true = refl
and_false false = refl

pub window_below : (pos next q : ℕ) → q < pos → (leb pos q && ltb q next) ≡ false
window_below pos next q l = grind (arith, nat_tests)

pub window_in : (pos next q : ℕ) → pos ≤ q → q < next → (leb pos q && ltb q next) ≡ true
window_in pos next q a b = grind (arith, nat_tests)

-- what is out after a stretch on which both sets stay the same
pub stretch : (op : Operation) (out more a b left right : List Run) (pos next : ℕ) (in_a in_b : Bool) →
    ((q : ℕ) → q < pos → in_runs out q ≡ kept op (in_runs a q) (in_runs b q)) →
    ((q : ℕ) → pos ≤ q → in_runs left q ≡ in_runs a q) → ((q : ℕ) → pos ≤ q → in_runs right q ≡ in_runs b q) →
    ((q : ℕ) → pos ≤ q → q < next → in_runs left q ≡ in_a) → ((q : ℕ) → pos ≤ q → q < next → in_runs right q ≡ in_b) →
    IsRising 0 out (pos + 1) →
    ((q : ℕ) → in_runs more q ≡ (in_runs out q || (kept op in_a in_b && (leb pos q && ltb q next)))) →
    (q : ℕ) → q < next → in_runs more q ≡ kept op (in_runs a q) (in_runs b q)
stretch op out more a b left right pos next in_a in_b so_far sa sb la lb rising made q l =
    elim (cases_lt q pos) [
      | inl below ↦ made q
          ∙ ap (λ w. in_runs out q || (kept op in_a in_b && w)) (window_below pos next q below)
          ∙ ap (λ w. in_runs out q || w) (and_false (kept op in_a in_b)) ∙ or_false (in_runs out q) ∙ so_far q below
      | inr above ↦ made q
          ∙ ap (λ w. in_runs out q || (kept op in_a in_b && w)) (window_in pos next q above l)
          ∙ ap (λ w. w || (kept op in_a in_b && true)) (past_runs 0 out (pos + 1) q rising (omega arith))
          ∙ and_true (kept op in_a in_b)
          ∙ (λ i. kept op (sym (la q above l) i) (sym (lb q above l) i))
          ∙ (λ i. kept op (sa q above i) (sb q above i))
    ]

kept_none : (op : Operation) → kept op false false ≡ false
kept_none Union = refl
kept_none Minus = refl

-- from the universe on nothing is in any of the sets
pub whole : (op : Operation) (out a b : List Run) (pos universe : ℕ) → universe ≤ pos → pos ≤ universe →
    IsRising 0 out (pos + 1) → IsRising 0 a (universe + 1) → IsRising 0 b (universe + 1) →
    ((q : ℕ) → q < pos → in_runs out q ≡ kept op (in_runs a q) (in_runs b q)) →
    (q : ℕ) → in_runs out q ≡ kept op (in_runs a q) (in_runs b q)
whole op out a b pos universe l m ro ra rb so_far q =
    elim (cases_lt q pos) [
      | inl below ↦ so_far q below
      | inr above ↦ past_runs 0 out (pos + 1) q ro (omega arith) ∙ sym (kept_none op)
          ∙ (λ i. kept op (sym (past_runs 0 a (universe + 1) q ra (omega arith)) i) (sym (past_runs 0 b (universe + 1) q rb (omega arith)) i))
    ]

-- what the set of the runs has
pub has-runs : (rs : List Run) (universe q : ℕ) → IsRising 0 rs (universe + 1) → has (passing (in_runs rs) universe) q ≡ in_runs rs q
has-runs rs universe q h = has-passing (in_runs rs) universe q (λ b l. past_runs 0 rs (universe + 1) b h (omega arith))

pub has_seen_runs : (s : Cells) (rs : List Run) (universe q : ℕ) → passing (in_runs rs) universe ≡ s → IsRising 0 rs (universe + 1) → has s q ≡ in_runs rs q
has_seen_runs s rs universe q e h = has_seen s (in_runs rs) universe q e (λ b l. past_runs 0 rs (universe + 1) b h (omega arith))

pub no_runs : (rs : List Run) (q : ℕ) → length rs ≡ 0 → in_runs rs q ≡ false
no_runs [] q e = refl
no_runs (r ∷ rs) q e = absurd (omega arith)

-- rising runs have a cell, where there are any
pub some_run : (rs : List Run) (low high : ℕ) → IsRising low rs high → (length rs ≡ 0 → ⊥) → (q : ℕ) × (in_runs rs q ≡ true)
some_run [] low high h ne = absurd (ne refl)
some_run (r ∷ rs) low high h ne =
    let n : in_run r r.first ≡ true = grind (arith, nat_tests) in
    (r.first, (λ i. n i || in_runs rs r.first))

-- a run behind the runs so far, or none, where a row has all cells of a stretch or none
pub row_stretch : (row out new : ℕ → Bool) (from next : ℕ) (inside : Bool) → ((q : ℕ) → q < from → out q ≡ row q) → ((q : ℕ) → from ≤ q → out q ≡ false) →
    ((q : ℕ) → from ≤ q → q < next → row q ≡ inside) → ((q : ℕ) → new q ≡ (out q || (inside && (leb from q && ltb q next)))) → (q : ℕ) → q < next → new q ≡ row q
row_stretch row out new from next inside so_far none same made q l =
    elim (cases_lt q from) [
      | inl below ↦ made q ∙ ap (λ w. out q || (inside && w)) (window_below from next q below) ∙ ap (λ w. out q || w) (and_false inside) ∙ or_false (out q) ∙ so_far q below
      | inr above ↦ made q ∙ ap (λ w. out q || (inside && w)) (window_in from next q above l) ∙ ap (λ w. w || (inside && true)) (none q above) ∙ and_true inside ∙ sym (same q above l)
    ]

-- the runs of all numbers below the universe are the runs of the set
pub runs_whole : (s : Cells) (rs : List Run) (c : ℕ) → c ≡ length s → IsRising 0 rs (c + 1) → ((q : ℕ) → q < c → in_runs rs q ≡ has s q) → (q : ℕ) → in_runs rs q ≡ has s q
runs_whole s rs c e h so_far q =
    elim (cases_lt q c) [
      | inl below ↦ so_far q below
      | inr above ↦ past_runs 0 rs (c + 1) q h (omega arith) ∙ sym (get_or_past s q false (omega arith))
    ]

-- one number more of a stretch
pub stretch_more : (old : Bool) (first b q : ℕ) → first ≤ b → ((old || (leb first q && ltb q b)) || eqb q b) ≡ (old || (leb first q && ltb q (b + 1)))
stretch_more true first b q l = refl
stretch_more false first b q l = grind (arith, nat_tests)

-- no number of an empty stretch
pub stretch_none : (old : Bool) (first q : ℕ) → old ≡ (old || (leb first q && ltb q first))
stretch_none true first q = refl
stretch_none false first q = grind (arith, nat_tests)

-- the runs up to the next one
pub in_runs-take : (rs : List Run) (i q : ℕ) (d : Run) → i < length rs → in_runs (take (i + 1) rs) q ≡ (in_runs (take i rs) q || in_run (get_or rs i d) q)
in_runs-take rs i q d l = ap (λ xs. in_runs xs q) (take_more rs i d l) ∙ in_runs-push (take i rs) (get_or rs i d) q

-- each of rising runs ends in time
pub run_within : (rs : List Run) (low high i : ℕ) (d : Run) → IsRising low rs high → i < length rs → (get_or rs i d).first + (get_or rs i d).count + 1 ≤ high
run_within [] low high i d h l = absurd (omega arith)
run_within (r ∷ rs) low high zero d h l = low_within (r.first + r.count + 1) rs high h.2
run_within (r ∷ rs) low high (suc i) d h l = run_within rs (r.first + r.count + 1) high i d h.2 (omega arith)

-- runs that rise and do not touch are at most half as many as the cells
pub rising_few : (low : ℕ) (rs : List Run) (high : ℕ) → IsRising low rs high → length rs + length rs + low ≤ high
rising_few low [] high h = omega (arith, h)
rising_few low (r ∷ rs) high h = let a = h.0 in let b = h.1 in let more = rising_few (r.first + r.count + 1) rs high h.2 in omega (arith, a, b, more)

-- so many there are before the last one
pub front_few : (old front : List Run) (last : Run) (from : ℕ) → old ≡ front ++ last ∷ [] → IsRising 0 old (from + 1) → length front + length front + 1 ≤ from
front_few old front last from e h =
    let f = front_of old front last from e h in
    let few = rising_few 0 front last.first f.0 in
    omega (arith, few, f.1, f.2)

-- and with it, where it does not touch what follows
pub front_all_few : (old front mid : List Run) (last : Run) (from : ℕ) → old ≡ front ++ last ∷ [] → IsRising 0 old (from + 1) → (last.first + last.count ≡ from → ⊥) → mid ≡ front ++ last ∷ [] → length mid + length mid ≤ from
front_all_few old front mid last from e h apart m =
    let f = front_of old front last from e h in
    let k : IsRising 0 mid (last.first + last.count + 1) = subst (λ (x : List Run). IsRising 0 x (last.first + last.count + 1)) (sym m) (rising_push 0 front last f.0 f.1) in
    let few = rising_few 0 mid (last.first + last.count + 1) k in
    omega (arith, few, f.2, apart)

-- all cells below the end were tested
pub tested_whole : (passes : ℕ → Bool) (rs : List Run) (position cells : ℕ) → cells ≤ position → position ≤ cells → IsRising 0 rs (position + 1) → ((q : ℕ) → q < position → in_runs rs q ≡ passes q) → (q : ℕ) → in_runs rs q ≡ (ltb q cells && passes q)
tested_whole passes rs position cells l m h so_far q =
    elim (cases_lt q cells) [
      | inl below ↦ (let t : ltb q cells ≡ true = grind (arith, nat_tests) in so_far q (omega (arith, below, l)) ∙ ap (λ b. b && passes q) (sym t))
      | inr above ↦ (let f : ltb q cells ≡ false = grind (arith, nat_tests) in past_runs 0 rs (position + 1) q h (omega (arith, above, m)) ∙ ap (λ b. b && passes q) (sym f))
    ]
