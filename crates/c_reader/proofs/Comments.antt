-- A comment, byte after byte.
use Rattle.std.proofs.Common.{◌≡◌, ◌≢◌, ℕ, suc, ◌+◌, ◌<◌, ◌≤◌, List, [], ◌∷◌, length, drop, get_or, Option, Some, None, refl, sym, ap, ◌∙◌, arith, false, drop-cons, length-drop, ◌⊎◌}
use Rattle.std.specs.Prelude.{◌==◌, ◌&&◌}
use Rattle.std.proofs.lemmas.Grind.{common_steps}
use Rattle.c_tree.specs.Scan.{comment, one_more}

abbrev pub plus : ℕ → Option ℕ → Option ℕ
plus n None = None
plus n (Some m) = Some (n + m)

-- the comment ends where it ends from the n-th byte on
pub record InComment (bytes : List ℕ) (n : ℕ) : Type 0 where
  pub within : n ≤ length bytes
  pub same : comment bytes ≡ plus n (comment (drop n bytes))

plus-zero : (o : Option ℕ) → o ≡ plus 0 o
plus-zero None = refl
plus-zero (Some n) = ap Some (omega arith)

plus-one : (n : ℕ) (o : Option ℕ) → plus n (one_more o) ≡ plus (n + 1) o
plus-one n None = refl
plus-one n (Some m) = ap Some (omega arith)

pub starts : (bytes : List ℕ) → InComment bytes 0
starts bytes = record { within = omega arith; same = plus-zero (comment bytes) }

two : (bytes : List ℕ) (n : ℕ) → n + 1 < length bytes → drop n bytes ≡ get_or bytes n 0 ∷ get_or bytes (n + 1) 0 ∷ drop (n + 2) bytes
two bytes n h =
    let a = drop-cons bytes n 0 (omega arith) in
    let b = drop-cons bytes (n + 1) 0 h in
    grind (arith, common_steps)

short : (xs : List ℕ) → length xs ≤ 1 → comment xs ≡ None
short [] h = refl
short (a ∷ []) h = refl
short (a ∷ b ∷ xs) h = absurd (omega arith)

not_both : (a b : ℕ) → (a ≢ 42) ⊎ (b ≢ 47) → ((a == 42) && (b == 47)) ≡ false
not_both a b h = grind (arith, common_steps)

module _ (bytes : List ℕ) (n : ℕ) (c : InComment bytes n) where
  pub over : length bytes ≤ n + 1 → comment bytes ≡ None
  over h = c.same ∙ ap (plus n) (short (drop n bytes) (omega (arith, length-drop n bytes)))

  pub ends : n + 1 < length bytes → get_or bytes n 0 ≡ 42 → get_or bytes (n + 1) 0 ≡ 47 → comment bytes ≡ Some (n + 2)
  ends h a b = c.same ∙ ap (λ x. plus n (comment x)) (two bytes n h) ∙ rw (a, b) refl

  pub goes_on : n + 1 < length bytes → (get_or bytes n 0 ≢ 42) ⊎ (get_or bytes (n + 1) 0 ≢ 47) → InComment bytes (n + 1)
  goes_on h d =
      let a = drop-cons bytes (n + 1) 0 h in
      let e : drop (n + 2) bytes ≡ drop (suc (n + 1)) bytes = (let k : n + 2 ≡ suc (n + 1) = omega arith in ap (λ k. drop k bytes) k) in
      record {
        within = omega arith;
        same = c.same ∙ ap (λ x. plus n (comment x)) (two bytes n h) ∙ rw (not_both _ _ d) (ap (λ x. plus n (one_more (comment x))) (ap (λ x. get_or bytes (n + 1) 0 ∷ x) e ∙ sym a) ∙ plus-one n (comment (drop (n + 1) bytes)));
      }
