-- What walks come to, over any edges.
use Rattle.std.specs.Prelude.{ℕ, ◌<◌, ◌≡◌, Bool, true, false, ◌&&◌, ◌==◌, List, [], ◌∷◌, length, slice_index_or}
use Rattle.std.specs.List.{list_any}
use Rattle.cell_sets.specs.Sets.{Cells, universe_of, has}

-- whether the list has the edge from n to m
abbrev pub joins : List (ℕ × ℕ) → ℕ → ℕ → Bool
joins edges n m = list_any (λ e. (e.0 == n) && (e.1 == m)) edges

-- n ∷ w is a list of nodes that are joined by edges
abbrev pub IsPath : (ℕ → ℕ → Bool) → ℕ → List ℕ → Type 0
IsPath edge n [] = Unit {0}
IsPath edge n (m ∷ w) = (edge n m ≡ true) × IsPath edge m w

-- the last node of n ∷ w is a goal, and no node before it stops the walk
abbrev pub Until : (ℕ → Bool) → (ℕ → Bool) → ℕ → List ℕ → Type 0
Until goal stop n [] = goal n ≡ true
Until goal stop n (m ∷ w) = (stop n ≡ false) × Until goal stop m w

-- some walk from n, with n itself counted, comes to a goal and is not stopped before
abbrev pub Reaches : (ℕ → ℕ → Bool) → (ℕ → Bool) → (ℕ → Bool) → ℕ → Type 0
Reaches edge goal stop n = (w : List ℕ) × (IsPath edge n w × Until goal stop n w)

-- whether number c is in the row of node n
abbrev pub in_row : List Cells → ℕ → ℕ → Bool
in_row rows n c = has (slice_index_or rows n []) c

-- each row has this universe
abbrev pub AllWide : ℕ → List Cells → Type 0
AllWide width rows = (n : ℕ) → n < length rows → universe_of (slice_index_or rows n []) ≡ width

-- the row of each node has exactly the numbers for which the node reaches a goal
pub record IsSolution (edge : ℕ → ℕ → Bool) (goals stops rows : List Cells) : Type 0 where
  pub rows_len : length rows ≡ length goals
  pub sound : (n c : ℕ) → in_row rows n c ≡ true → Reaches edge (λ k. in_row goals k c) (λ k. in_row stops k c) n
  pub complete : (n c : ℕ) → n < length goals → Reaches edge (λ k. in_row goals k c) (λ k. in_row stops k c) n → in_row rows n c ≡ true
