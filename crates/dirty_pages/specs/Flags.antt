-- The flags of one page.
use Rattle.std.specs.Prelude.{◌≡◌, ◌<◌, ℕ, Bool, ◌==◌, bit_and, not}
use Rattle.dirty_pages.specs.declared.flags.PageFlags.{PageFlags}

abbrev pub is_protected : PageFlags → Bool
is_protected f = bit_and f.0 1 == 1

abbrev pub is_dirty : PageFlags → Bool
is_dirty f = bit_and f.0 2 == 2

abbrev pub is_marked : PageFlags → Bool
is_marked f = bit_and f.0 4 == 4

-- no flag but the three is set, and the page is protected exactly where it is not dirty
unfoldable pub IsPage : PageFlags → Type 0
IsPage f = (f.0 < 8) × (is_protected f ≡ not (is_dirty f))
