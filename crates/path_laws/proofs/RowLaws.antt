-- Rows after one of them has grown.
use Rattle.std.proofs.Common.{ℕ, ◌+◌, ◌<◌, ◌≤◌, ◌≡◌, Bool, true, false, ◌&&◌, ◌||◌, not, cond, List, [], length, get_or, set, arith, sym, ap, ◌∙◌, refl, eqb, inl, inr, zero, suc, get_or-set_same, get_or-set_other, length-set}
use Rattle.std.proofs.lemmas.List.Sums.{sum_by-set}
use Rattle.std.proofs.lemmas.List.{get_or_past}
use Rattle.std.proofs.lemmas.Bool.{false≢true, cases_eq, cases_lt, eq-eqb, ne_eqb}
use Rattle.cell_sets.specs.Sets.{Cells, has}
use Rattle.path_laws.specs.Reaching.{in_row, AllWide}
use Rattle.path_laws.specs.Solving.{missing, count_false}

pub or_false : (x : Bool) → (x || false) ≡ x
or_false true = refl
or_false false = refl

-- a member is below the universe
pub has_below : (s : Cells) (q : ℕ) → has s q ≡ true → q < length s
has_below s q h = elim (cases_lt q (length s)) [ inl l ↦ l | inr l ↦ absurd (false≢true (sym (get_or_past s q false l) ∙ h)) ]

-- only a row that there is has members
pub row_in : (rows : List Cells) (n c : ℕ) → in_row rows n c ≡ true → n < length rows
row_in rows n c h = elim (cases_lt n (length rows)) [ inl l ↦ l | inr l ↦ absurd (false≢true (sym (ap (λ r. has r c) (get_or_past rows n [] l)) ∙ h)) ]

pub in_row-set : (rows : List Cells) (n : ℕ) (row : Cells) (k c : ℕ) (b : Bool) → n < length rows → has row c ≡ (in_row rows n c || b) → in_row (set rows n row) k c ≡ (in_row rows k c || (eqb k n && b))
in_row-set rows n row k c b l h =
    elim (cases_eq k n) [
      | inl e ↦ ap (λ j. in_row (set rows n row) j c) e ∙ ap (λ r. has r c) (get_or-set_same rows n row [] l) ∙ h ∙ (λ i. in_row rows (sym e i) c || (sym (eq-eqb k n e) i && b))
      | inr ne ↦ ap (λ r. has r c) (get_or-set_other rows n k row [] ne) ∙ sym (or_false (in_row rows k c)) ∙ ap (λ t. in_row rows k c || (t && b)) (sym (ne_eqb k n ne))
    ]

one_less : (x y : Bool) (a b : ℕ) → (x ≡ true → y ≡ true) → b ≤ a → b + cond y 0 1 ≤ a + cond x 0 1
one_less x y a b h l = grind (arith, h)

-- a test that passes more fails less
less : (p q : ℕ → Bool) (n : ℕ) → ((c : ℕ) → p c ≡ true → q c ≡ true) → count_false q n ≤ count_false p n
less p q zero h = omega arith
less p q (suc n) h = let k = less p q n h in one_less (p n) (q n) (count_false p n) (count_false q n) (h n) k

one_less_strict : (x y : Bool) (a b : ℕ) → (x ≡ true → y ≡ true) → b < a → b + cond y 0 1 < a + cond x 0 1
one_less_strict x y a b h l = grind (arith, h)

here : (x y : Bool) (a b : ℕ) → x ≡ false → y ≡ true → b ≤ a → b + cond y 0 1 < a + cond x 0 1
here x y a b e f l = rw (e, f) (omega arith)

-- and strictly less where one is new
strictly : (p q : ℕ → Bool) (n c : ℕ) → ((c : ℕ) → p c ≡ true → q c ≡ true) → c < n → p c ≡ false → q c ≡ true → count_false q n < count_false p n
strictly p q zero c h l x y = absurd (omega arith)
strictly p q (suc n) c h l x y =
    elim (cases_eq c n) [
      | inl e ↦ let k = less p q n h in let x' : p n ≡ false = sym (ap p e) ∙ x in let y' : q n ≡ true = sym (ap q e) ∙ y in here (p n) (q n) (count_false p n) (count_false q n) x' y' k
      | inr ne ↦ let k = strictly p q n c h (omega arith) x y in one_less_strict (p n) (q n) (count_false p n) (count_false q n) (h n) k
    ]

or_grows : (x b : Bool) → x ≡ true → (x || b) ≡ true
or_grows x b h = ap (λ t. t || b) h

pub missing-less : (width : ℕ) (rows : List Cells) (n : ℕ) (row : Cells) (m : ℕ → Bool) → n < length rows → ((c : ℕ) → has row c ≡ (in_row rows n c || m c)) →
    (c : ℕ) × ((c < width) × (m c ≡ true) × (in_row rows n c ≡ false)) → missing width (set rows n row) < missing width rows
missing-less width rows n row m l h w =
    let e = sum_by-set (λ r. count_false (has r) width) rows n row [] l in
    let s : count_false (has row) width < count_false (has (get_or rows n [])) width =
    strictly (has (get_or rows n [])) (has row) width w.0 (λ c x. h c ∙ or_grows _ (m c) x) w.1.0 w.1.2 (h w.0 ∙ (λ i. w.1.2 i || w.1.1 i)) in
    omega arith

same_count : (p q : ℕ → Bool) (n : ℕ) → ((c : ℕ) → p c ≡ q c) → count_false p n ≡ count_false q n
same_count p q zero h = refl
same_count p q (suc n) h = (λ i. same_count p q n h i + cond (h n i) 0 1)

pub missing-same : (width : ℕ) (rows : List Cells) (n : ℕ) (row : Cells) → n < length rows → ((c : ℕ) → has row c ≡ in_row rows n c) → missing width (set rows n row) ≡ missing width rows
missing-same width rows n row l h =
    let e = sum_by-set (λ r. count_false (has r) width) rows n row [] l in
    let s : count_false (has row) width ≡ count_false (has (get_or rows n [])) width = same_count (has row) (has (get_or rows n [])) width h in
    omega arith

pub wide-set : (width : ℕ) (rows : List Cells) (n : ℕ) (row : Cells) → n < length rows → AllWide width rows → length row ≡ width → AllWide width (set rows n row)
wide-set width rows n row l wide e k lk =
    elim (cases_eq k n) [
      | inl same ↦ ap (λ j. length (get_or (set rows n row) j [])) same ∙ ap (λ r. length r) (get_or-set_same rows n row [] l) ∙ e
      | inr ne ↦ ap (λ r. length r) (get_or-set_other rows n k row [] ne) ∙ wide k (omega (arith, length-set rows n row))
    ]

-- where nothing is new the row stays
unmoved : (x b : Bool) → (b ≡ true → x ≡ false → ⊥) → (x || b) ≡ x
unmoved true b h = refl
unmoved false true h = absurd (h refl refl)
unmoved false false h = refl

-- nothing new at one row is nothing new at all
nothing_new : (rows : List Cells) (n k c : ℕ) (b : Bool) → (in_row rows n c || b) ≡ in_row rows n c → (in_row rows k c || (eqb k n && b)) ≡ in_row rows k c
nothing_new rows n k c b h =
    elim (cases_eq k n) [
      | inl e ↦ (λ i. in_row rows (e i) c || (eq-eqb k n e i && b)) ∙ h ∙ (λ i. in_row rows (sym e i) c)
      | inr ne ↦ ap (λ t. in_row rows k c || (t && b)) (ne_eqb k n ne) ∙ or_false (in_row rows k c)
    ]

-- what row n is, where it takes from row m what the stop has not: `taken` is what it takes, `row` what it has then
pub record IsPulled (width : ℕ) (rows : List Cells) (n m : ℕ) (stop taken row : Cells) : Type 0 where
  pub n_in : n < length rows
  pub taken_wide : length taken ≡ width
  pub row_wide : length row ≡ width
  pub taken_has : (q : ℕ) → has taken q ≡ (in_row rows m q && not (has stop q))
  pub row_has : (q : ℕ) → has row q ≡ (in_row rows n q || (in_row rows m q && not (has stop q)))

pub is_pulled : (width : ℕ) (rows : List Cells) (n m : ℕ) (target from moved stop taken row : Cells) → n < length rows → m < length rows → AllWide width rows → target ≡ get_or rows n [] → from ≡ get_or rows m [] → moved ≡ from →
    length taken ≡ length moved → ((q : ℕ) → has taken q ≡ (has moved q && not (has stop q))) → length row ≡ length target → ((q : ℕ) → has row q ≡ (has target q || has taken q)) → IsPulled width rows n m stop taken row
is_pulled width rows n m target from moved stop taken row ln lm wide t f d lt ht lr hr =
    let took = (λ (q : ℕ). ht q ∙ ap (λ r. has r q && not (has stop q)) (d ∙ f)) in
    record {
      n_in = ln;
      taken_wide = lt ∙ ap (λ r. length r) (d ∙ f) ∙ wide m lm;
      row_wide = lr ∙ ap (λ r. length r) t ∙ wide n ln;
      taken_has = took;
      row_has = λ q. hr q ∙ (λ i. has (t i) q || took q i);
    }

pub pulled_grown : (width : ℕ) (rows : List Cells) (n m : ℕ) (stop taken row : Cells) → IsPulled width rows n m stop taken row → (k q : ℕ) → in_row (set rows n row) k q ≡ (in_row rows k q || (eqb k n && (in_row rows m q && not (has stop q))))
pulled_grown width rows n m stop taken row p k q = in_row-set rows n row k q _ p.n_in (p.row_has q)

pub pulled_more : (width : ℕ) (rows : List Cells) (n m : ℕ) (stop taken row : Cells) → IsPulled width rows n m stop taken row →
    (q : ℕ) × ((has taken q ≡ true) × (in_row rows n q ≡ false)) → missing width (set rows n row) < missing width rows
pulled_more width rows n m stop taken row p w =
    let below = has_below taken w.0 w.1.0 in
    missing-less width rows n row (λ q. in_row rows m q && not (has stop q)) p.n_in p.row_has (w.0, (omega (arith, below, p.taken_wide), sym (p.taken_has w.0) ∙ w.1.0, w.1.1))

pub pulled_none : (width : ℕ) (rows : List Cells) (n m : ℕ) (stop taken row : Cells) → IsPulled width rows n m stop taken row →
    ((q : ℕ) → has taken q ≡ true → in_row rows n q ≡ false → ⊥) → ((k q : ℕ) → in_row (set rows n row) k q ≡ in_row rows k q) × (missing width (set rows n row) ≡ missing width rows)
pulled_none width rows n m stop taken row p none =
    let stays = (λ (q : ℕ). unmoved (in_row rows n q) (in_row rows m q && not (has stop q)) (λ b x. none q (p.taken_has q ∙ b) x)) in (
      (λ k q. pulled_grown width rows n m stop taken row p k q ∙ nothing_new rows n k q _ (stays q)),
      missing-same width rows n row p.n_in (λ q. p.row_has q ∙ stays q),
    )
