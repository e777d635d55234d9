-- What the flags of one page say of the view of all.
use Rattle.std.proofs.Common.{◌≡◌, ◌<◌, ℕ, List, Bool, true, false, not, refl, sym, ap, ◌∙◌, length, get_or, arith, ◌==◌, bit_and}
use Rattle.std.specs.Prelude.{map, slice_set, All}
use Rattle.std.proofs.lemmas.List.{get_or-map, map-set, length-map}
use Rattle.std.proofs.Math.Seq.{map-set_same}
use Rattle.dirty_pages.specs.declared.flags.PageFlags.{PageFlags}
use Rattle.dirty_pages.specs.Flags.{IsPage, is_dirty, is_marked}
use Rattle.dirty_pages.specs.Pages.{PageStates, is_dirty as dirty_page, is_protected, in_snapshot, served, copied}
use Rattle.dirty_pages.proofs.Bits.{one_kind}

abbrev pub states : List PageFlags → PageStates
states items = record { dirty = map is_dirty items; in_snapshot = map is_marked items }

pub length_states : (items : List PageFlags) (s : PageStates) → states items ≡ s → length items ≡ length s.dirty
length_states items s e = sym (length-map items is_dirty) ∙ ap (λ (s : PageStates). length s.dirty) e

pub is_page : (items : List PageFlags) (p : ℕ) (f : PageFlags) → All IsPage items → p < length items → f ≡ get_or items p f → IsPage f
is_page items p f all lt e = Rattle.std.proofs.Common.subst IsPage (sym e) (all p f lt)

pub dirty_at : (items : List PageFlags) (s : PageStates) (p : ℕ) (f : PageFlags) → states items ≡ s → p < length items → f ≡ get_or items p f → is_dirty f ≡ dirty_page s p
dirty_at items s p f e lt is = ap is_dirty is ∙ sym (get_or-map is_dirty items p f true lt) ∙ ap (λ s. dirty_page s p) e

pub marked_at : (items : List PageFlags) (s : PageStates) (p : ℕ) (f : PageFlags) → states items ≡ s → p < length items → f ≡ get_or items p f → is_marked f ≡ in_snapshot s p
marked_at items s p f e lt is = ap is_marked is ∙ sym (get_or-map is_marked items p f false lt) ∙ ap (λ s. in_snapshot s p) e

pub protected_at : (items : List PageFlags) (s : PageStates) (p : ℕ) (f : PageFlags) → states items ≡ s → All IsPage items → p < length items → f ≡ get_or items p f → (bit_and f.0 1 == 1) ≡ is_protected s p
protected_at items s p f e all lt is = one_kind f (is_page items p f all lt is) ∙ ap not (dirty_at items s p f e lt is)

pub served_states : (items : List PageFlags) (s : PageStates) (p : ℕ) (f g : PageFlags) → states items ≡ s → f ≡ get_or items p f → is_dirty g ≡ true → is_marked g ≡ is_marked f → states (slice_set items p g) ≡ served s p
served_states items s p f g e is dirty marked =
    let d : map is_dirty (slice_set items p g) ≡ slice_set (map is_dirty items) p true = map-set is_dirty items p g ∙ ap (slice_set (map is_dirty items) p) dirty in
    let m : map is_marked (slice_set items p g) ≡ map is_marked items = map-set_same is_marked items p g f (marked ∙ ap is_marked is) in
    ap (λ x. record { dirty = x; in_snapshot = map is_marked (slice_set items p g) }) d
    ∙ ap (λ x. record { dirty = slice_set (map is_dirty items) p true; in_snapshot = x }) m
    ∙ ap (λ s. served s p) e

pub copied_states : (items : List PageFlags) (s : PageStates) (p : ℕ) (f g : PageFlags) → states items ≡ s → f ≡ get_or items p f → is_dirty g ≡ is_dirty f → is_marked g ≡ false → states (slice_set items p g) ≡ copied s p
copied_states items s p f g e is dirty marked =
    let d : map is_dirty (slice_set items p g) ≡ map is_dirty items = map-set_same is_dirty items p g f (dirty ∙ ap is_dirty is) in
    let m : map is_marked (slice_set items p g) ≡ slice_set (map is_marked items) p false = map-set is_marked items p g ∙ ap (slice_set (map is_marked items) p) marked in
    ap (λ x. record { dirty = x; in_snapshot = map is_marked (slice_set items p g) }) d
    ∙ ap (λ x. record { dirty = map is_dirty items; in_snapshot = x }) m
    ∙ ap (λ s. copied s p) e
