-- Walks: lists of nodes that are joined by edges.
use Rattle.std.specs.Prelude.{ℕ, ◌<◌, ◌≡◌, true, false, List, [], ◌∷◌, length}
use Rattle.path_laws.specs.Graph.{Graph, has_edge, is_exclude}

-- n, and then the list w: the last is a node, and each before it has an edge to the one after it
abbrev pub IsWalkFrom : Graph → ℕ → List ℕ → Type 0
IsWalkFrom g n [] = n < length g.nodes
IsWalkFrom g n (m ∷ w) = (has_edge g n m ≡ true) × IsWalkFrom g m w

-- a walk is a list of nodes that is not empty, each but the last with an edge to the one after it
abbrev pub IsWalk : Graph → List ℕ → Type 0
IsWalk g [] = ⊥
IsWalk g (n ∷ w) = IsWalkFrom g n w

-- the last node of n ∷ w
abbrev pub last_of : ℕ → List ℕ → ℕ
last_of n [] = n
last_of n (m ∷ w) = last_of m w

-- no node of the list is an EXCLUDE_HERE
abbrev pub NoExclude : Graph → List ℕ → Type 0
NoExclude g [] = Unit {0}
NoExclude g (n ∷ w) = (is_exclude g n ≡ false) × NoExclude g w
