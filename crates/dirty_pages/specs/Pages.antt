-- The state of each page of a memory.
use Rattle.std.specs.Prelude.{ℕ, List, [], ◌∷◌, Bool, true, false, not, length, get_or, replicate, slice_set}

-- which pages are dirty, and which are in the snapshot; a page that is not dirty is protected
pub record PageStates : Type 0 where
  pub dirty : List Bool
  pub in_snapshot : List Bool

-- page p was written since it was protected, or there is no page p
abbrev pub is_dirty : PageStates → ℕ → Bool
is_dirty pages p = get_or pages.dirty p true

abbrev pub is_protected : PageStates → ℕ → Bool
is_protected pages p = not (is_dirty pages p)

abbrev pub in_snapshot : PageStates → ℕ → Bool
in_snapshot pages p = get_or pages.in_snapshot p false

-- this many pages, all dirty and none in the snapshot
abbrev pub fresh : ℕ → PageStates
fresh n = record { dirty = replicate n true; in_snapshot = replicate n false }

-- the fault of page p was served
abbrev pub served : PageStates → ℕ → PageStates
served pages p = record pages { dirty = slice_set pages.dirty p true }

-- every page was protected
abbrev pub protected : PageStates → PageStates
protected pages = record pages { dirty = replicate (length pages.dirty) false }

-- the dirty pages are the snapshot, and every page was protected
abbrev pub snapshot_of : PageStates → PageStates
snapshot_of pages = record { dirty = replicate (length pages.dirty) false; in_snapshot = pages.dirty }

-- page p was copied
abbrev pub copied : PageStates → ℕ → PageStates
copied pages p = record pages { in_snapshot = slice_set pages.in_snapshot p false }

-- the faults of these pages were served, one after another
abbrev pub served_all : PageStates → List ℕ → PageStates
served_all pages [] = pages
served_all pages (p ∷ ps) = served_all (served pages p) ps
