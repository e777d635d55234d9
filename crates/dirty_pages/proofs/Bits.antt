-- What each change of the three flags leaves.
use Rattle.std.proofs.Common.{◌≡◌, ◌<◌, ℕ, zero, suc, Bool, true, false, ◌==◌, bit_and, bit_or, not, refl, sym, ap, ◌∙◌, subst, lit<, arith}
use Rattle.bitflags.specs.Sets.{without}
use Rattle.dirty_pages.specs.declared.flags.PageFlags.{PageFlags}
use Rattle.dirty_pages.specs.Flags.{IsPage, is_protected, is_dirty, is_marked}

below_eight : (P : ℕ → Type 0) → P 0 → P 1 → P 2 → P 3 → P 4 → P 5 → P 6 → P 7 → (n : ℕ) → n < 8 → P n
below_eight P p0 p1 p2 p3 p4 p5 p6 p7 zero lt = p0
below_eight P p0 p1 p2 p3 p4 p5 p6 p7 (suc zero) lt = p1
below_eight P p0 p1 p2 p3 p4 p5 p6 p7 (suc (suc zero)) lt = p2
below_eight P p0 p1 p2 p3 p4 p5 p6 p7 (suc (suc (suc zero))) lt = p3
below_eight P p0 p1 p2 p3 p4 p5 p6 p7 (suc (suc (suc (suc zero)))) lt = p4
below_eight P p0 p1 p2 p3 p4 p5 p6 p7 (suc (suc (suc (suc (suc zero))))) lt = p5
below_eight P p0 p1 p2 p3 p4 p5 p6 p7 (suc (suc (suc (suc (suc (suc zero)))))) lt = p6
below_eight P p0 p1 p2 p3 p4 p5 p6 p7 (suc (suc (suc (suc (suc (suc (suc zero))))))) lt = p7
below_eight P p0 p1 p2 p3 p4 p5 p6 p7 (suc (suc (suc (suc (suc (suc (suc (suc n)))))))) lt = absurd (omega arith)

-- what a change of bits n to k leaves: a page, whether it is dirty, and whether it is marked
pub record Leaves (k : ℕ) (dirty marked : Bool) : Type 0 where
  pub small : k < 8
  pub one : (bit_and k 1 == 1) ≡ not (bit_and k 2 == 2)
  pub dirty_is : (bit_and k 2 == 2) ≡ dirty
  pub marked_is : (bit_and k 4 == 4) ≡ marked

Opened : ℕ → Type 0
Opened n = Leaves (without 8 (bit_or n 2) 1) true (bit_and n 4 == 4)

Protected : ℕ → Type 0
Protected n = Leaves (bit_or (without 8 n 2) 1) false (bit_and n 4 == 4)

pub opened : (n : ℕ) → n < 8 → Leaves (without 8 (bit_or n 2) 1) true (bit_and n 4 == 4)
unfolding Opened
opened = let it : (k : ℕ) (m : Bool) → k < 8 → (bit_and k 1 == 1) ≡ not (bit_and k 2 == 2) → (bit_and k 2 == 2) ≡ true → (bit_and k 4 == 4) ≡ m → Leaves k true m = λ k m s o d e. record { small = s; one = o; dirty_is = d; marked_is = e } in
    below_eight Opened (it _ _ (lit< tt) refl refl refl) (it _ _ (lit< tt) refl refl refl) (it _ _ (lit< tt) refl refl refl) (it _ _ (lit< tt) refl refl refl) (it _ _ (lit< tt) refl refl refl) (it _ _ (lit< tt) refl refl refl) (it _ _ (lit< tt) refl refl refl) (it _ _ (lit< tt) refl refl refl)

pub protected : (n : ℕ) → n < 8 → Leaves (bit_or (without 8 n 2) 1) false (bit_and n 4 == 4)
unfolding Protected
protected = let it : (k : ℕ) (m : Bool) → k < 8 → (bit_and k 1 == 1) ≡ not (bit_and k 2 == 2) → (bit_and k 2 == 2) ≡ false → (bit_and k 4 == 4) ≡ m → Leaves k false m = λ k m s o d e. record { small = s; one = o; dirty_is = d; marked_is = e } in
    below_eight Protected (it _ _ (lit< tt) refl refl refl) (it _ _ (lit< tt) refl refl refl) (it _ _ (lit< tt) refl refl refl) (it _ _ (lit< tt) refl refl refl) (it _ _ (lit< tt) refl refl refl) (it _ _ (lit< tt) refl refl refl) (it _ _ (lit< tt) refl refl refl) (it _ _ (lit< tt) refl refl refl)

-- the snapshot's flag set or cleared: the others stay
Marked : ℕ → Type 0
Marked n = (bit_or n 4 < 8) × ((bit_and (bit_or n 4) 1 == 1) ≡ (bit_and n 1 == 1)) × ((bit_and (bit_or n 4) 2 == 2) ≡ (bit_and n 2 == 2)) × ((bit_and (bit_or n 4) 4 == 4) ≡ true)

Released : ℕ → Type 0
Released n = (without 8 n 4 < 8) × ((bit_and (without 8 n 4) 1 == 1) ≡ (bit_and n 1 == 1)) × ((bit_and (without 8 n 4) 2 == 2) ≡ (bit_and n 2 == 2)) × ((bit_and (without 8 n 4) 4 == 4) ≡ false)

marked_bits : (n : ℕ) → n < 8 → Marked n
unfolding Marked
marked_bits = below_eight Marked (lit< tt, refl, refl, refl) (lit< tt, refl, refl, refl) (lit< tt, refl, refl, refl) (lit< tt, refl, refl, refl) (lit< tt, refl, refl, refl) (lit< tt, refl, refl, refl) (lit< tt, refl, refl, refl) (lit< tt, refl, refl, refl)

released_bits : (n : ℕ) → n < 8 → Released n
unfolding Released
released_bits = below_eight Released (lit< tt, refl, refl, refl) (lit< tt, refl, refl, refl) (lit< tt, refl, refl, refl) (lit< tt, refl, refl, refl) (lit< tt, refl, refl, refl) (lit< tt, refl, refl, refl) (lit< tt, refl, refl, refl) (lit< tt, refl, refl, refl)

pub marked : (n : ℕ) → n < 8 → (bit_and n 1 == 1) ≡ not (bit_and n 2 == 2) → Leaves (bit_or n 4) (bit_and n 2 == 2) true
unfolding Marked
marked n lt one = let m = marked_bits n lt in record { small = m.0; one = m.1 ∙ one ∙ ap not (sym m.2); dirty_is = m.2; marked_is = m.3 }

pub released : (n : ℕ) → n < 8 → (bit_and n 1 == 1) ≡ not (bit_and n 2 == 2) → Leaves (without 8 n 4) (bit_and n 2 == 2) false
unfolding Released
released n lt one = let m = released_bits n lt in record { small = m.0; one = m.1 ∙ one ∙ ap not (sym m.2); dirty_is = m.2; marked_is = m.3 }

-- a page is small and of one kind
pub small_page : (f : PageFlags) → IsPage f → f.0 < 8
unfolding IsPage
small_page f h = h.0

pub one_kind : (f : PageFlags) → IsPage f → (bit_and f.0 1 == 1) ≡ not (bit_and f.0 2 == 2)
unfolding IsPage
one_kind f h = h.1

-- the flags whose bits are k
pub left : (f : PageFlags) (k : ℕ) (dirty marked : Bool) → f.0 ≡ k → Leaves k dirty marked → IsPage f × (is_dirty f ≡ dirty) × (is_marked f ≡ marked)
unfolding IsPage
left f k dirty marked e l = (
  subst (λ n. (n < 8) × ((bit_and n 1 == 1) ≡ not (bit_and n 2 == 2))) (sym e) (l.small, l.one),
  ap (λ n. bit_and n 2 == 2) e ∙ l.dirty_is,
  ap (λ n. bit_and n 4 == 4) e ∙ l.marked_is,
)

-- a page that is dirty alone
abbrev pub fresh_flags : PageFlags
fresh_flags = record { 0 = 2 }

pub fresh_page : IsPage fresh_flags
unfolding IsPage
fresh_page = (lit< tt, refl)
