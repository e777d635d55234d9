-- Sets to which runs of cells are added.
use Rattle.std.proofs.Common.{◌≡◌, ℕ, ◌+◌, ◌<◌, ◌≤◌, ◌⊎◌, true, false, ◌||◌, ◌&&◌, ltb, leb, Result, Ok, Err, OnOk, refl, sym, ap, ◌∙◌, arith, inl, inr}
use Rattle.std.proofs.lemmas.Bool.{false≢true, or_left, or_right, or_cases, and_parts, and_from, ltb-true, leb-true, lt-ltb, le-leb}
use Rattle.cell_sets.specs.Sets.{Cells, universe_of, has}
use Rattle.access_summary.specs.Touch.{Adds}

-- a set was united with one that has the wanted cells and no other
pub adds_union : (old other new : Cells) (P : ℕ → Type 0) → universe_of new ≡ universe_of old → ((q : ℕ) → has new q ≡ (has old q || has other q)) → ((c : ℕ) → c < universe_of old → P c → has other c ≡ true) → ((c : ℕ) → has other c ≡ true → P c) → Adds old new P
adds_union old other new P wide both into from = record {
  wide = wide;
  kept = λ c h. both c ∙ or_left (has old c) (has other c) h;
  added = λ c l p. both c ∙ or_right (has old c) (has other c) (into c l p);
  only = λ c h. elim (or_cases (has old c) (has other c) (sym (both c) ∙ h)) [ inl o ↦ inl o | inr n ↦ inr (from c n) ];
}

-- nothing was added, since nothing below the universe passes
pub adds_none : (old : Cells) (P : ℕ → Type 0) → ((c : ℕ) → c < universe_of old → P c → ⊥) → Adds old old P
adds_none old P none = record {
  wide = refl;
  kept = λ c h. h;
  added = λ c l p. absurd (none c l p);
  only = λ c h. inl h;
}

-- a run that ends at the universe at the latest
pub adds_run : (old run new : Cells) (first count cut : ℕ) → cut ≤ count → (cut ≡ count) ⊎ (universe_of old ≤ first + cut) → universe_of new ≡ universe_of old → ((q : ℕ) → has new q ≡ (has old q || has run q)) →
    ((q : ℕ) → has run q ≡ (leb first q && ltb q (first + cut))) → Adds old new (λ c. (first ≤ c) × (c < first + count))
adds_run old run new first count cut short far wide both is = adds_union old run new (λ c. (first ≤ c) × (c < first + count)) wide both
    (λ c l p. is c ∙ and_from (leb first c) (ltb c (first + cut)) (le-leb first c p.0) (lt-ltb c (first + cut) (elim far [ inl same ↦ omega (arith, p.1) | inr past ↦ omega arith ])))
    (λ c h. let b = and_parts (leb first c) (ltb c (first + cut)) (sym (is c) ∙ h) in let a = leb-true first c b.0 in let z = ltb-true c (first + cut) b.1 in (a, omega arith))

-- a callee's result that is handed on, with two of its facts
pub on_ok_both : {T E R : Type 0} (r : Result T E) (P Q : Type 0) → (P → Q → R) → OnOk r P → OnOk r Q → OnOk r R
on_ok_both (Ok x) P Q f p q = f p q
on_ok_both (Err e) P Q f p q = tt

-- a row that cells were added to was added to a set
pub adds_row_on_ok : {T E : Type 0} (r : Result T E) (P : ℕ → Type 0) (old empty row cells new : Cells) → cells ≡ row → universe_of empty ≡ universe_of old → ((q : ℕ) → has empty q ≡ false) → Adds empty row P → OnOk r (universe_of new ≡ universe_of old) → OnOk r ((q : ℕ) → has new q ≡ (has old q || has cells q)) → OnOk r (Adds old new P)
adds_row_on_ok r P old empty row cells new same wide none added =
    on_ok_both r (universe_of new ≡ universe_of old) ((q : ℕ) → has new q ≡ (has old q || has cells q)) (λ u h. adds_union old cells new P u h
    (λ c l p. ap (λ s. has s c) same ∙ added.added c (omega arith) p)
    (λ c x. elim (added.only c (ap (λ s. has s c) (sym same) ∙ x)) [ inl o ↦ absurd (false≢true (sym (none c) ∙ o)) | inr p ↦ p ]))
