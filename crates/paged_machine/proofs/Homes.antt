-- Where functions begin, and how many locals they have.
use Rattle.std.proofs.Common.{◌≡◌, ◌≢◌, ℕ, zero, suc, ◌<◌, ◌≤◌, max, List, [], ◌∷◌, length, get_or, Some, Bool, true, false, ◌==◌, refl, sym, ap, ◌∙◌, subst, arith}
use Rattle.std.specs.Prelude.{slice_get, slice_index, nat_le, map, if◌then◌else◌}
use Rattle.std.specs.List.{All}
use Rattle.std.proofs.lemmas.Bool.Decides.{nat_tests}
use Rattle.std.proofs.lemmas.Option.{slice_get_within, slice_get-get_or}
use Rattle.machine_code.specs.CodeView.{CodeView, Function, start, locals, home, locals_from, locals_at, most_locals}
use Rattle.machine_code.specs.Valid.{IsFunction, IsNewAt, AreDistinct, IsValid}

same_some : {X : Type 0} {a b : X} → Some a ≡ Some b → a ≡ b
same_some h = cc

pub all_at : {X : Type 0} (P : X → Type 0) (xs : List X) (k : ℕ) (x : X) → All P xs → slice_get xs k ≡ Some x → P x
all_at P xs k x all e =
    let lt = slice_get_within xs k x e in
    let g : get_or xs k x ≡ x = same_some (sym (slice_get-get_or xs k x lt) ∙ e) in
    subst P g (all k x lt)

home_le : (fs : List Function) (p : ℕ) → home fs p ≤ p
home_le [] p = omega arith
home_le (f ∷ fs) p = by_test (nat_le (start f) p) refl (home_le fs p)
  where
    by_test : (b : Bool) → nat_le (start f) p ≡ b → home fs p ≤ p → (if b then max (start f) (home fs p) else home fs p) ≤ p
    by_test true e h = let le : start f ≤ p = grind (arith, nat_tests) in omega arith
    by_test false e h = h

home_ge : (fs : List Function) (k : ℕ) (g : Function) (p : ℕ) → slice_get fs k ≡ Some g → start g ≤ p → start g ≤ home fs p
home_ge [] k g p e le = absurd (cc)
home_ge (f ∷ fs) zero g p e le =
    let same : f ≡ g = same_some e in
    let sf : start f ≡ start g = ap start same in
    let t : nat_le (start f) p ≡ true = grind (arith, nat_tests) in
    subst (λ b. start g ≤ (if b then max (start f) (home fs p) else home fs p)) (sym t) (omega arith)
home_ge (f ∷ fs) (suc k) g p e le = by_test (nat_le (start f) p) (home_ge fs k g p e le)
  where
    by_test : (b : Bool) → start g ≤ home fs p → start g ≤ (if b then max (start f) (home fs p) else home fs p)
    by_test true h = omega arith
    by_test false h = h

pub home_start : (fs : List Function) (k : ℕ) (g : Function) → slice_get fs k ≡ Some g → home fs (start g) ≡ start g
home_start fs k g e = let a = home_le fs (start g) in let b = home_ge fs k g (start g) e (omega arith) in omega arith

pub home_main : (fs : List Function) → home fs 0 ≡ 0
home_main fs = let a = home_le fs 0 in omega arith

rest_differ : (x : ℕ) (xs : List ℕ) → AreDistinct (x ∷ xs) → AreDistinct xs
unfolding IsNewAt
rest_differ x xs d = λ j lt i lt'. d (suc j) (omega arith) (suc i) (omega arith)

map_get : (fs : List Function) (k : ℕ) (g : Function) → slice_get fs k ≡ Some g → (k < length (map start fs)) × (slice_index (map start fs) k ≡ start g)
map_get [] k g e = absurd (cc)
map_get (f ∷ fs) zero g e = (omega arith, ap start (same_some e))
map_get (f ∷ fs) (suc k) g e = let h = map_get fs k g e in let lt = h.0 in (omega arith, h.1)

first_differs : (f : Function) (fs : List Function) (k : ℕ) (g : Function) → AreDistinct (map start (f ∷ fs)) → slice_get fs k ≡ Some g → start f ≢ start g
unfolding IsNewAt
first_differs f fs k g d e = λ same. let h = map_get fs k g e in let lt = h.0 in d (suc k) (omega arith) 0 (omega arith) (same ∙ sym h.1)

pub locals_found : (fs : List Function) (k : ℕ) (g : Function) → AreDistinct (map start fs) → slice_get fs k ≡ Some g → locals_from fs (start g) ≡ locals g
locals_found [] k g d e = absurd (cc)
locals_found (f ∷ fs) zero g d e =
    let same : f ≡ g = same_some e in
    let sf : start f ≡ start g = ap start same in
    let t : (start f == start g) ≡ true = grind (arith, nat_tests) in
    ap (λ b. if b then locals f else locals_from fs (start g)) t ∙ ap locals same
locals_found (f ∷ fs) (suc k) g d e =
    let ne = first_differs f fs k g d e in
    let t : (start f == start g) ≡ false = grind (arith, nat_tests) in
    ap (λ b. if b then locals f else locals_from fs (start g)) t ∙ locals_found fs k g (rest_differ (start f) (map start fs) d) e

-- the locals where a function begins are its own
pub locals_start : (c : CodeView) (k : ℕ) (g : Function) → IsValid c → slice_get c.functions k ≡ Some g → locals_at c (start g) ≡ locals g
locals_start c k g v e = ap (locals_from c.functions) (home_start c.functions k g e) ∙ locals_found c.functions k g v.starts e

no_start : (c : CodeView) (fs : List Function) → All (IsFunction c) fs → locals_from fs 0 ≡ 0
no_start c [] all = refl
no_start c (f ∷ fs) all =
    let fits = all 0 f (omega arith) in
    let above = fits.behind_main in
    let t : (start f == 0) ≡ false = grind (arith, nat_tests) in
    ap (λ b. if b then locals f else locals_from fs 0) t ∙ no_start c fs (λ k d lt. all (suc k) d (omega arith))

-- main has no locals
pub locals_main : (c : CodeView) (p : ℕ) → IsValid c → home c.functions p ≡ 0 → locals_at c p ≡ 0
locals_main c p v e = ap (locals_from c.functions) e ∙ no_start c c.functions v.functions

pub locals_most : (fs : List Function) (s : ℕ) → locals_from fs s ≤ most_locals fs
locals_most [] s = omega arith
locals_most (f ∷ fs) s = by_test (start f == s) (locals_most fs s)
  where
    by_test : (b : Bool) → locals_from fs s ≤ most_locals fs → (if b then locals f else locals_from fs s) ≤ max (locals f) (most_locals fs)
    by_test true h = omega arith
    by_test false h = omega arith

pub locals_of_most : (fs : List Function) (k : ℕ) (g : Function) → slice_get fs k ≡ Some g → locals g ≤ most_locals fs
locals_of_most [] k g e = absurd (cc)
locals_of_most (f ∷ fs) zero g e = let same = ap locals (same_some e) in omega arith
locals_of_most (f ∷ fs) (suc k) g e = let h = locals_of_most fs k g e in omega arith
