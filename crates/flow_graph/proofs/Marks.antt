-- The numbers of the EXCLUDE_HERE among nodes.
use Rattle.std.proofs.Common.{◌≡◌, ℕ, zero, suc, ◌+◌, ◌<◌, ◌≤◌, ◌⊎◌, cond, List, [], ◌∷◌, ◌++◌, length, true, refl, ap, ◌∙◌, arith, inl, inr, eqb}
use Rattle.std.proofs.lemmas.Bool.{cases_lt, false≢true, and_parts, eqb-true, eq-eqb}
use Rattle.std.proofs.lemmas.List.Sums.{sum_by-cons}
use Rattle.std.specs.Prelude.{slice_get, count_by}
use Rattle.std.specs.Option.{option_map_or}
use Rattle.c_tree.specs.Excludes.{counts_from}
use Rattle.path_laws.specs.declared.graph.Mark.{Mark}
use Rattle.path_laws.specs.declared.graph.Mark.TheVariants.{Plain, Checkpoint, Exclude}
use Rattle.path_laws.specs.Graph.{mark_is_exclude, mark_is_directive}

-- the number of an EXCLUDE_HERE before others
abbrev pub number_before : Mark → List ℕ → List ℕ
number_before Plain ks = ks
number_before Checkpoint ks = ks
number_before (Exclude k) ks = k ∷ ks

pub before_both : (m : Mark) (ks ls : List ℕ) → number_before m (ks ++ ls) ≡ number_before m ks ++ ls
before_both Plain ks ls = refl
before_both Checkpoint ks ls = refl
before_both (Exclude k) ks ls = refl

count_one : (m : Mark) (ks : List ℕ) → cond (mark_is_exclude m) 1 0 + length ks ≡ length (number_before m ks)
count_one Plain ks = omega arith
count_one Checkpoint ks = omega arith
count_one (Exclude k) ks = omega arith

-- ---- a mark, and numbers that count on behind it

tail_counts : (m : Mark) (ks : List ℕ) (n : ℕ) → counts_from n (number_before m ks) ≡ true → (j : ℕ) × (counts_from j ks ≡ true)
tail_counts Plain ks n h = (n, h)
tail_counts Checkpoint ks n h = (n, h)
tail_counts (Exclude k) ks n h = (n + 1, (and_parts (eqb k n) (counts_from (n + 1) ks) h).1)

head_within : (m : Mark) (ks : List ℕ) (n k : ℕ) → counts_from n (number_before m ks) ≡ true → mark_is_directive k m ≡ true → (n ≤ k) × (k < n + length (number_before m ks))
head_within Plain ks n k h d = absurd (false≢true d)
head_within Checkpoint ks n k h d = absurd (false≢true d)
head_within (Exclude j) ks n k h d = let a = eqb-true j n (and_parts (eqb j n) (counts_from (n + 1) ks) h).0 in let b = eqb-true j k d in (omega arith, omega arith)

tail_within : (m : Mark) (ks : List ℕ) (n k : ℕ) → counts_from n (number_before m ks) ≡ true → ((j : ℕ) → counts_from j ks ≡ true → (j ≤ k) × (k < j + length ks)) → (n ≤ k) × (k < n + length (number_before m ks))
tail_within Plain ks n k h g = g n h
tail_within Checkpoint ks n k h g = g n h
tail_within (Exclude j) ks n k h g = let r = g (n + 1) (and_parts (eqb j n) (counts_from (n + 1) ks) h).1 in (omega (arith, r.0), omega (arith, r.1))

head_or_tail : (m : Mark) (ks : List ℕ) (n k : ℕ) → counts_from n (number_before m ks) ≡ true → n ≤ k → k < n + length (number_before m ks)
    → (mark_is_directive k m ≡ true) ⊎ ((j : ℕ) × (counts_from j ks ≡ true) × (j ≤ k) × (k < j + length ks))
head_or_tail Plain ks n k h a b = inr (n, h, a, b)
head_or_tail Checkpoint ks n k h a b = inr (n, h, a, b)
head_or_tail (Exclude j) ks n k h a b =
    let e = eqb-true j n (and_parts (eqb j n) (counts_from (n + 1) ks) h).0 in
    elim (cases_lt n k) [
      | inl lt ↦ inr (n + 1, (and_parts (eqb j n) (counts_from (n + 1) ks) h).1, omega arith, omega arith)
      | inr ge ↦ inl (eq-eqb j k (omega arith))
    ]

-- the number of a mark does not come again
not_again : (m : Mark) (ks : List ℕ) (n k : ℕ) → counts_from n (number_before m ks) ≡ true → mark_is_directive k m ≡ true → ((j : ℕ) → counts_from j ks ≡ true → j ≤ k) → ⊥
not_again Plain ks n k h d g = false≢true d
not_again Checkpoint ks n k h d g = false≢true d
not_again (Exclude j) ks n k h d g = let a = eqb-true j n (and_parts (eqb j n) (counts_from (n + 1) ks) h).0 in let b = eqb-true j k d in let c = g (n + 1) (and_parts (eqb j n) (counts_from (n + 1) ks) h).1 in absurd (omega arith)

-- ---- lists of what has marks

module _ (A : Type 0) (f : A → Mark) where
  abbrev pub numbers : List A → List ℕ
  numbers [] = []
  numbers (x ∷ xs) = number_before (f x) (numbers xs)

  abbrev pub mark_in : List A → ℕ → Mark
  mark_in xs n = option_map_or f (slice_get xs n) Plain

  pub numbers_both : (xs ys : List A) → numbers (xs ++ ys) ≡ numbers xs ++ numbers ys
  numbers_both [] ys = refl
  numbers_both (x ∷ xs) ys = ap (number_before (f x)) (numbers_both xs ys) ∙ before_both (f x) (numbers xs) (numbers ys)

  pub numbers_count : (xs : List A) → count_by (λ x. mark_is_exclude (f x)) xs ≡ length (numbers xs)
  numbers_count [] = refl
  numbers_count (x ∷ xs) = sum_by-cons (λ x. cond (mark_is_exclude (f x)) 1 0) x xs ∙ ap (λ n. cond (mark_is_exclude (f x)) 1 0 + n) (numbers_count xs) ∙ count_one (f x) (numbers xs)

  pub numbers_within : (xs : List A) (n k i : ℕ) → counts_from n (numbers xs) ≡ true → mark_is_directive k (mark_in xs i) ≡ true → (n ≤ k) × (k < n + length (numbers xs))
  numbers_within [] n k i h d = absurd (false≢true d)
  numbers_within (x ∷ xs) n k zero h d = head_within (f x) (numbers xs) n k h d
  numbers_within (x ∷ xs) n k (suc i) h d = tail_within (f x) (numbers xs) n k h (λ j g. numbers_within xs j k i g d)

  pub numbers_there : (xs : List A) (n k : ℕ) → counts_from n (numbers xs) ≡ true → n ≤ k → k < n + length (numbers xs) → (i : ℕ) × (mark_is_directive k (mark_in xs i) ≡ true)
  numbers_there [] n k h a b = absurd (omega arith)
  numbers_there (x ∷ xs) n k h a b = elim (head_or_tail (f x) (numbers xs) n k h a b) [
    | inl d ↦ (zero, d)
    | inr t ↦ let r = numbers_there xs t.0 k t.1 t.2 t.3 in (suc r.0, r.1)
  ]

  pub numbers_once : (xs : List A) (n k i j : ℕ) → counts_from n (numbers xs) ≡ true → mark_is_directive k (mark_in xs i) ≡ true → mark_is_directive k (mark_in xs j) ≡ true → i ≡ j
  numbers_once [] n k i j h d e = absurd (false≢true d)
  numbers_once (x ∷ xs) n k zero zero h d e = refl
  numbers_once (x ∷ xs) n k zero (suc j) h d e = absurd (not_again (f x) (numbers xs) n k h d (λ m g. (numbers_within xs m k j g e).0))
  numbers_once (x ∷ xs) n k (suc i) zero h d e = absurd (not_again (f x) (numbers xs) n k h e (λ m g. (numbers_within xs m k i g d).0))
  numbers_once (x ∷ xs) n k (suc i) (suc j) h d e = let t = tail_counts (f x) (numbers xs) n h in ap suc (numbers_once xs t.0 k i j t.1 d e)
