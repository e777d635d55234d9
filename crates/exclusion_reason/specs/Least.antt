-- The least of some walks.
use Rattle.std.specs.Prelude.{ℕ, ◌≡◌, ◌<◌, ◌⊎◌, List, [], ◌∷◌, length, Option, Some, None}

-- at the first place where the two differ the first has the smaller number
abbrev pub ComesFirst : List ℕ → List ℕ → Type 0
ComesFirst [] w = ⊥
ComesFirst (n ∷ v) [] = ⊥
ComesFirst (n ∷ v) (m ∷ w) = (n < m) ⊎ ((n ≡ m) × ComesFirst v w)

-- a walk is less than another where it has fewer nodes, or as many and comes first
abbrev pub IsLess : List ℕ → List ℕ → Type 0
IsLess v w = (length v < length w) ⊎ ((length v ≡ length w) × ComesFirst v w)

-- w is one of these walks, and every other one is greater
pub record IsLeast (IsOne : List ℕ → Type 0) (w : List ℕ) : Type 0 where
  pub is_one : IsOne w
  pub least : (v : List ℕ) → IsOne v → (v ≡ w) ⊎ IsLess w v

-- the least of these walks, or none where there is none
abbrev pub IsLeastIfAny : (List ℕ → Type 0) → Option (List ℕ) → Type 0
IsLeastIfAny IsOne None = (w : List ℕ) → IsOne w → ⊥
IsLeastIfAny IsOne (Some w) = IsLeast IsOne w
