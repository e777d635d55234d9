-- The order of trails is that of their walks.
use Rattle.std.proofs.Common.{ℕ, ◌<◌, ◌≡◌, ◌⊎◌, List, [], ◌∷◌, ◌++◌, reverse, arith, sym, ap, ◌∙◌, refl, subst, inl, inr, suc, append_assoc}
use Rattle.std.proofs.lemmas.List.{append-nil, reverse-append, length-reverse}
use Rattle.exclusion_reason.specs.Visits.{IsEarlier, IsBelow, IsAtMost, extend}
use Rattle.exclusion_reason.specs.Least.{ComesFirst, IsLess}

earlier_trans : (u v w : List ℕ) → IsEarlier u v → IsEarlier v w → IsEarlier u w
earlier_trans [] v w e f = absurd e
earlier_trans (x ∷ u) [] w e f = absurd e
earlier_trans (x ∷ u) (y ∷ v) [] e f = absurd f
earlier_trans (x ∷ u) (y ∷ v) (z ∷ w) e f =
    elim e [
      | inl a ↦ elim f [ inl b ↦ inl (earlier_trans u v w a b) | inr b ↦ inl (subst (λ t. IsEarlier u t) b.0 a) ]
      | inr a ↦ elim f [ inl b ↦ inl (subst (λ t. IsEarlier t w) (sym a.0) b) | inr b ↦ inr (a.0 ∙ b.0, omega (arith, a.1, b.1)) ]
    ]

pub below_trans : (u v w : List ℕ) → IsBelow u v → IsBelow v w → IsBelow u w
below_trans u v w e f =
    elim e [
      | inl a ↦ inl (elim f [ inl b ↦ omega (arith, a, b) | inr b ↦ omega (arith, a, b.0) ])
      | inr a ↦ elim f [ inl b ↦ inl (omega (arith, a.0, b)) | inr b ↦ inr (a.0 ∙ b.0, earlier_trans u v w a.1 b.1) ]
    ]

-- of two trails that go on by one node, that of the lesser one is less
pub below_push : (v w : List ℕ) (n m : ℕ) → IsBelow v w → IsBelow (n ∷ v) (m ∷ w)
below_push v w n m e = elim e [ inl a ↦ inl (omega (arith, a)) | inr a ↦ inr (ap suc a.0, inl a.1) ]

pub below_last : (v : List ℕ) (n m : ℕ) → n < m → IsBelow (n ∷ v) (m ∷ v)
below_last v n m l = inr (refl, inr (refl, l))

pub below_longer : (v : List ℕ) (m : ℕ) → IsBelow v (m ∷ v)
below_longer v m = inl (omega arith)

pub at_most_trans : (u v w : List ℕ) → IsAtMost u v → IsAtMost v w → IsAtMost u w
at_most_trans u v w e f =
    elim e [
      | inl a ↦ subst (λ t. IsAtMost t w) (sym a) f
      | inr a ↦ elim f [ inl b ↦ inr (subst (λ t. IsBelow u t) b a) | inr b ↦ inr (below_trans u v w a b) ]
    ]

push_at_most : (v w : List ℕ) (m : ℕ) → IsAtMost v w → IsAtMost (m ∷ v) (m ∷ w)
push_at_most v w m e = elim e [ inl a ↦ inl (ap (λ (t : List ℕ). m ∷ t) a) | inr a ↦ inr (below_push v w m m a) ]

-- two trails that go on alike keep their order
pub extend_at_most : (x v w : List ℕ) → IsAtMost v w → IsAtMost (extend v x) (extend w x)
extend_at_most [] v w e = e
extend_at_most (m ∷ x) v w e = extend_at_most x (m ∷ v) (m ∷ w) (push_at_most v w m e)

-- a trail that goes on is greater
pub extend_longer : (x r : List ℕ) → IsAtMost r (extend r x)
extend_longer [] r = inl refl
extend_longer (m ∷ x) r = at_most_trans r (m ∷ r) (extend (m ∷ r) x) (inr (below_longer r m)) (extend_longer x (m ∷ r))

reverse-cons : (n : ℕ) (v : List ℕ) → reverse (n ∷ v) ≡ reverse v ++ n ∷ []
reverse-cons n v = reverse-append (n ∷ []) v

-- the walk of a trail that goes on
pub reverse_extend : (x r : List ℕ) → reverse (extend r x) ≡ reverse r ++ x
reverse_extend [] r = sym (append-nil (reverse r))
reverse_extend (m ∷ x) r = reverse_extend x (m ∷ r) ∙ ap (λ (t : List ℕ). t ++ x) (reverse-cons m r) ∙ append_assoc (reverse r) (m ∷ []) x

comes_first_append : (v w x y : List ℕ) → ComesFirst v w → ComesFirst (v ++ x) (w ++ y)
comes_first_append [] w x y e = absurd e
comes_first_append (n ∷ v) [] x y e = absurd e
comes_first_append (n ∷ v) (m ∷ w) x y e = elim e [ inl l ↦ inl l | inr p ↦ inr (p.0, comes_first_append v w x y p.1) ]

comes_first_last : (u : List ℕ) (n m : ℕ) → n < m → ComesFirst (u ++ n ∷ []) (u ++ m ∷ [])
comes_first_last [] n m l = inl l
comes_first_last (k ∷ u) n m l = inr (refl, comes_first_last u n m l)

earlier_first : (v w : List ℕ) → IsEarlier v w → ComesFirst (reverse v) (reverse w)
earlier_first [] w e = absurd e
earlier_first (n ∷ v) [] e = absurd e
earlier_first (n ∷ v) (m ∷ w) e =
    let first : ComesFirst (reverse v ++ n ∷ []) (reverse w ++ m ∷ []) =
    elim e [
      | inl a ↦ comes_first_append (reverse v) (reverse w) (n ∷ []) (m ∷ []) (earlier_first v w a)
      | inr a ↦ subst (λ (t : List ℕ). ComesFirst (reverse v ++ n ∷ []) (reverse t ++ m ∷ [])) a.0 (comes_first_last (reverse v) n m a.1)
    ] in
    subst (λ (t : List ℕ). ComesFirst t (reverse (m ∷ w))) (sym (reverse-cons n v)) (subst (λ (t : List ℕ). ComesFirst (reverse v ++ n ∷ []) t) (sym (reverse-cons m w)) first)

-- a lesser trail is that of a lesser walk
pub below_less : (v w : List ℕ) → IsBelow v w → IsLess (reverse v) (reverse w)
below_less v w e =
    let a = length-reverse v in
    let b = length-reverse w in
    elim e [
      | inl l ↦ inl (omega (arith, l, a, b))
      | inr p ↦ inr (a ∙ p.0 ∙ sym b, earlier_first v w p.1)
    ]

pub at_most_less : (v w : List ℕ) → IsAtMost v w → (reverse w ≡ reverse v) ⊎ IsLess (reverse v) (reverse w)
at_most_less v w e = elim e [ inl a ↦ inl (ap (λ (x : List ℕ). reverse x) (sym a)) | inr a ↦ inr (below_less v w a) ]
