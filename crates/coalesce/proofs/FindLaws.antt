-- The runs of the cells that are listed.
use Rattle.std.proofs.Common.{◌≡◌, ◌⊎◌, inl, inr, refl, sym, ◌∙◌, ap, subst, ℕ, ◌+◌, ◌-◌, ◌*◌, ◌<◌, ◌≤◌, Bool, true, false, cond, ◌||◌, Some, None, List, [], ◌∷◌, ◌++◌, length, arith}
use Rattle.std.specs.Prelude.{slice_index}
use Rattle.std.proofs.lemmas.Bool.{cases_lt}
use Rattle.std.proofs.lemmas.Bool.Decides.{nat_tests}
use Rattle.std.proofs.lemmas.List.Folds.{list_any-append}
use Rattle.cell_sets.specs.declared.runs.Run.{Run}
use Rattle.cell_sets.specs.Runs.{in_run, in_runs, IsRising}
use Rattle.cell_sets.proofs.RunLaws.{rising_push, rising_above}
use Rattle.image_chain.specs.Memory.{Joined, is_kept, kept_word}

-- runs that rise and do not touch are at most half as many as the cells
pub rising_few : (low : ℕ) (runs : List Run) (high : ℕ) → IsRising low runs high → 2 * length runs + low ≤ high
rising_few low [] high is = omega (arith, is)
rising_few low (r ∷ runs) high is = let a = is.0 in let b = is.1 in let more = rising_few (r.first + r.count + 1) runs high is.2 in omega (arith, a, b, more)

or_false : (b : Bool) → (b || false) ≡ b
or_false true = refl
or_false false = refl

or_true : (b : Bool) → (b || true) ≡ true
or_true true = refl
or_true false = refl

true_not_false : true ≡ false → ⊥
true_not_false same = cc

not_in_run : (r : Run) (q : ℕ) → (q < r.first) ⊎ (r.first + r.count ≤ q) → in_run r q ≡ false
not_in_run r q (inl below) = grind (arith, nat_tests)
not_in_run r q (inr above) = grind (arith, nat_tests)

is_in_run : (r : Run) (q : ℕ) → r.first ≤ q → q < r.first + r.count → in_run r q ≡ true
is_in_run r q le lt = grind (arith, nat_tests)

-- a list with a run more
with_run : (runs : List Run) (r : Run) (q : ℕ) (a b : Bool) → in_runs runs q ≡ a → in_run r q ≡ b → in_runs (runs ++ r ∷ []) q ≡ (a || b)
with_run runs r q a b was here =
    list_any-append (λ (s : Run). in_run s q) runs (r ∷ [])
    ∙ ap (λ (x : Bool). in_runs runs q || x) (or_false (in_run r q))
    ∙ ap (λ (x : Bool). x || in_run r q) was ∙ ap (λ (x : Bool). a || x) here

-- The list has the listed cells below a cell, which is listed or the end.
pub record IsFoundTo (kept : Joined) (runs : List Run) (from : ℕ) : Type 0 where
  pub most : from ≤ 262144
  pub listed : from < 262144 → is_kept kept from ≡ true
  pub rising : from < 262144 → IsRising 0 runs from
  pub whole : IsRising 0 runs 262145
  pub below : (q : ℕ) → q < from → in_runs runs q ≡ is_kept kept q
  pub above : (q : ℕ) → from ≤ q → in_runs runs q ≡ false

-- before the first run
pub none_found : (kept : Joined) (from : ℕ) → from ≤ 262144 → ((c : ℕ) → 0 ≤ c → c < from → is_kept kept c ≡ false) → (from < 262144 → is_kept kept from ≡ true) → IsFoundTo kept [] from
none_found kept from most between there = record {
  most = most;
  listed = there;
  rising = λ lt. omega arith;
  whole = omega arith;
  below = λ q lt. sym (between q (omega arith) lt);
  above = λ q le. refl;
}

-- two cells of which one is listed are two
apart : (kept : Joined) (a b : ℕ) → is_kept kept a ≡ true → is_kept kept b ≡ false → a ≤ b → a < b
apart kept a b yes_a no_b le = elim (cases_lt a b) [
  | inl lt ↦ lt
  | inr ge ↦ absurd (let same : b ≡ a = omega (arith, le, ge) in true_not_false (sym yes_a ∙ sym (ap (is_kept kept) same) ∙ no_b))
]

apart_back : (kept : Joined) (a b : ℕ) → is_kept kept a ≡ false → is_kept kept b ≡ true → a ≤ b → a < b
apart_back kept a b no_a yes_b le = elim (cases_lt a b) [
  | inl lt ↦ lt
  | inr ge ↦ absurd (let same : b ≡ a = omega (arith, le, ge) in true_not_false (sym yes_b ∙ ap (is_kept kept) same ∙ no_a))
]

-- the run at hand ends behind its first cell
run_ends : (kept : Joined) (runs : List Run) (from end : ℕ) → IsFoundTo kept runs from → from < 262144 → from ≤ end → (end < 262144 → is_kept kept end ≡ false) → from < end
run_ends kept runs from end found inside le there = elim (cases_lt end 262144) [
  | inl lt ↦ apart kept from end (found.listed inside) (there lt) le
  | inr past ↦ omega (arith, inside, past)
]

-- one run more, up to the next listed cell
pub found_more : (kept : Joined) (runs : List Run) (r : Run) (from end next : ℕ) → IsFoundTo kept runs from → from < 262144 → r.first ≡ from → r.count ≡ end - from
    → from ≤ end → end ≤ 262144 → ((c : ℕ) → from ≤ c → c < end → is_kept kept c ≡ true) → (end < 262144 → is_kept kept end ≡ false)
    → end ≤ next → next ≤ 262144 → ((c : ℕ) → end ≤ c → c < next → is_kept kept c ≡ false) → (next < 262144 → is_kept kept next ≡ true)
    → IsFoundTo kept (runs ++ r ∷ []) next
found_more kept runs r from end next found inside first count le most listed_to ends rises most_next none_to there =
    let rose = run_ends kept runs from end found inside le ends in
    let behind : r.first + r.count ≡ end = omega (arith, first, count, rose) in
    let pushed : IsRising 0 (runs ++ r ∷ []) (r.first + r.count + 1) = rising_push 0 runs r (subst (IsRising 0 runs) (sym first) (found.rising inside)) (omega (arith, count, rose)) in
    record {
      most = most_next;
      listed = there;
      rising = λ lt. rising_above 0 (runs ++ r ∷ []) (r.first + r.count + 1) next (let gap = apart_back kept end next (ends (omega (arith, rises, lt))) (there lt) rises in omega (arith, behind, gap)) pushed;
      whole = rising_above 0 (runs ++ r ∷ []) (r.first + r.count + 1) 262145 (omega (arith, behind, most)) pushed;
      below = λ q lt. elim (cases_lt q from) [
        | inl before ↦ with_run runs r q (is_kept kept q) false (found.below q before) (not_in_run r q (inl (omega (arith, first, before)))) ∙ or_false (is_kept kept q)
        | inr from_on ↦ elim (cases_lt q end) [
          | inl within ↦ with_run runs r q (in_runs runs q) true refl (is_in_run r q (omega (arith, first, from_on)) (omega (arith, behind, within))) ∙ or_true (in_runs runs q) ∙ sym (listed_to q from_on within)
          | inr past ↦ with_run runs r q false false (found.above q from_on) (not_in_run r q (inr (omega (arith, behind, past)))) ∙ sym (none_to q past lt)
        ]
      ];
      above = λ q ge. with_run runs r q false false (found.above q (omega (arith, le, rises, ge))) (not_in_run r q (inr (omega (arith, behind, rises, ge))));
    }

-- a cell without a word is not listed
not_kept : (kept : Joined) (c : ℕ) → kept_word kept c ≡ None → is_kept kept c ≡ false
not_kept kept c none = by_test (is_kept kept c) none
  where
    by_test : (b : Bool) → cond b (Some (slice_index kept.words c)) None ≡ None → b ≡ false
    by_test true is = absurd cc
    by_test false is = refl

-- all listed cells were found
pub found_all : (kept : Joined) (runs : List Run) (from : ℕ) → IsFoundTo kept runs from → 262144 ≤ from → ((c : ℕ) → 262144 ≤ c → kept_word kept c ≡ None) → (c : ℕ) → in_runs runs c ≡ is_kept kept c
found_all kept runs from found all ends c = elim (cases_lt c 262144) [
  | inl lt ↦ found.below c (omega (arith, all, lt))
  | inr past ↦ (let most = found.most in found.above c (omega (arith, most, past))) ∙ sym (not_kept kept c (ends c past))
]
