-- After all pages were protected, the dirty ones are those that were served since.
use Rattle.std.proofs.Common.{◌≡◌, ◌≢◌, ◌<◌, ℕ, zero, suc, List, [], ◌∷◌, Bool, true, false, ◌||◌, ◌==◌, refl, sym, ap, ◌∙◌, length, get_or, replicate, arith, rules, ⊎_elim}
use Rattle.std.specs.Prelude.{slice_set}
use Rattle.std.specs.List.{list_any}
use Rattle.std.proofs.lemmas.List.{get_or-set_other}
use Rattle.std.proofs.lemmas.Grind.{get_or-set_at}
use Rattle.std.proofs.lemmas.List.{length-set, length-replicate}
use Rattle.std.proofs.lemmas.Bool.Decides.{nat_tests}
use Rattle.dirty_pages.specs.Pages.{PageStates, is_dirty, served, served_all, protected}

get_set : (l : List Bool) (q p : ℕ) → p < length l → get_or (slice_set l q true) p true ≡ ((q == p) || get_or l p true)
get_set l q p lt = by_test (q == p) refl
  where
    by_test : (b : Bool) → (q == p) ≡ b → get_or (slice_set l q true) p true ≡ (b || get_or l p true)
    by_test true e = let same : q ≡ p = grind (arith, nat_tests) in get_or-set_at l q p true true (sym same) (omega arith)
    by_test false e = get_or-set_other l q p true true (λ same. let h : (q == p) ≡ true = grind (arith, nat_tests) in cc)

get_false : (n p : ℕ) → p < n → get_or (replicate n false) p true ≡ false
get_false zero p lt = absurd (omega arith)
get_false (suc n) zero lt = refl
get_false (suc n) (suc p) lt = get_false n p (omega arith)

or_false : (a b c : Bool) → (a || b) || c ≡ b || (a || c)
or_false true true c = refl
or_false true false c = refl
or_false false b c = refl

or_end : (a : Bool) → a || false ≡ a
or_end true = refl
or_end false = refl

served_from : (pages : PageStates) (ps : List ℕ) (p : ℕ) → p < length pages.dirty → is_dirty (served_all pages ps) p ≡ list_any (λ q. q == p) ps || is_dirty pages p
served_from pages [] p lt = refl
served_from pages (q ∷ ps) p lt =
    served_from (served pages q) ps p (let l = length-set pages.dirty q true in omega arith)
    ∙ ap (λ b. list_any (λ k. k == p) ps || b) (get_set pages.dirty q p lt)
    ∙ sym (or_false (q == p) (list_any (λ k. k == p) ps) (get_or pages.dirty p true))

pub dirty_is_served : (pages : PageStates) (ps : List ℕ) (p : ℕ) → p < length pages.dirty → is_dirty (served_all (protected pages) ps) p ≡ list_any (λ q. q == p) ps
dirty_is_served pages ps p lt =
    let n = length pages.dirty in
    let l : length (replicate n false) ≡ n = length-replicate n false in
    served_from (protected pages) ps p (omega arith)
    ∙ ap (λ b. list_any (λ q. q == p) ps || b) (get_false n p lt)
    ∙ or_end (list_any (λ q. q == p) ps)
