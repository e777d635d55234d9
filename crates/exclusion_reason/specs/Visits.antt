-- The visits of a search and their trails.
use Rattle.std.specs.Prelude.{ℕ, Option, Some, None, ◌+◌, ◌<◌, ◌≤◌, ◌≡◌, ◌⊎◌, true, false, List, [], ◌∷◌, ◌++◌, length, slice_index_or}
use Rattle.path_laws.specs.Graph.{Graph, has_edge}
use Rattle.exclusion_reason.specs.declared.aim.Aim.{Aim}
use Rattle.exclusion_reason.specs.declared.aim.State.{State}
use Rattle.exclusion_reason.specs.declared.seen.Met.{Met}
use Rattle.exclusion_reason.specs.declared.search.Visit.{Visit}
use Rattle.exclusion_reason.specs.Ways.{start, after, is_end, LeadsOn}
use Rattle.exclusion_reason.specs.Seen.{is_seen}

-- the trail of each visit: the nodes of its walk, the last one first
unfoldable pub trails : List (List ℕ) → List Visit → List (List ℕ)
trails earlier [] = earlier
trails earlier (v ∷ vs) = trails (earlier ++ (v.state.node ∷ slice_index_or earlier v.from []) ∷ []) vs

abbrev pub trail_of : List Visit → ℕ → List ℕ
trail_of visits i = slice_index_or (trails [] visits) i []

abbrev pub visit_at : List Visit → ℕ → Visit
visit_at visits i = slice_index_or visits i (record { state = start 0; from = 0 })

abbrev pub state_at : List Visit → ℕ → State
state_at visits i = (visit_at visits i).state

abbrev pub from_at : List Visit → ℕ → ℕ
from_at visits i = (visit_at visits i).from

-- the first of two trails, which have the same length, comes first in the order of walks
abbrev pub IsEarlier : List ℕ → List ℕ → Type 0
IsEarlier [] w = ⊥
IsEarlier (n ∷ v) [] = ⊥
IsEarlier (n ∷ v) (m ∷ w) = IsEarlier v w ⊎ ((v ≡ w) × (n < m))

-- the first of two trails is that of a lesser walk
abbrev pub IsBelow : List ℕ → List ℕ → Type 0
IsBelow v w = (length v < length w) ⊎ ((length v ≡ length w) × IsEarlier v w)

abbrev pub IsAtMost : List ℕ → List ℕ → Type 0
IsAtMost v w = (v ≡ w) ⊎ IsBelow v w

-- the trail of a walk that goes on over the nodes of w
abbrev pub extend : List ℕ → List ℕ → List ℕ
extend r [] = r
extend r (m ∷ w) = extend (m ∷ r) w

-- the first visit has a trail of one node, and each other one has come from an earlier one
pub record AreLinked (visits : List Visit) : Type 0 where
  pub some : 0 < length visits
  pub first : trail_of visits 0 ≡ (state_at visits 0).node ∷ []
  pub before : (i : ℕ) → i < length visits → 0 < i → from_at visits i < i
  pub trail : (i : ℕ) → i < length visits → 0 < i → trail_of visits i ≡ (state_at visits i).node ∷ trail_of visits (from_at visits i)

-- the search has gone on from visit j to node m: from those before `head` to each node, and from `head` to each node below `floor`
abbrev pub IsDone : ℕ → ℕ → ℕ → ℕ → Type 0
IsDone head floor j m = (j < head) ⊎ ((j ≡ head) × (m < floor))

-- What a search has found that has gone on so far: its visits stand in the order of their walks, and there is one for each state that a walk
-- over the nodes that are done comes to, with a walk that is no greater.
pub record IsSearch (g : Graph) (a : Aim) (first head floor : ℕ) (visits : List Visit) (seen : List Met) : Type 0 where
  pub linked : AreLinked visits
  pub starts : state_at visits 0 ≡ start first
  pub in_graph : (i : ℕ) → i < length visits → (state_at visits i).node < length g.nodes
  pub leads : (i : ℕ) → i < length visits → (w : List ℕ) → LeadsOn g a (state_at visits i) w →
      (v : List ℕ) × ((extend (trail_of visits i) w ≡ extend (first ∷ []) v) × LeadsOn g a (start first) v)
  pub rises : (i j : ℕ) → i < j → j < length visits → IsBelow (trail_of visits i) (trail_of visits j)
  pub done : (i : ℕ) → i < length visits → 0 < i → IsDone head floor (from_at visits i) (state_at visits i).node
  pub served : (j m : ℕ) → IsDone head floor j m → has_edge g (state_at visits j).node m ≡ true →
      (i : ℕ) × ((i < length visits) × (state_at visits i ≡ after g a (state_at visits j) m) × IsAtMost (trail_of visits i) (m ∷ trail_of visits j))
  pub no_ends : (j : ℕ) → j < head → is_end g a (state_at visits j) ≡ false
  pub met : (s : State) → is_seen seen s ≡ true → (i : ℕ) × ((i < length visits) × (state_at visits i ≡ s))

-- more visits, with the earlier ones as they were
pub record Keeps (old new : List Visit) : Type 0 where
  pub more : length old ≤ length new
  pub same : (i : ℕ) → i < length old → state_at new i ≡ state_at old i

-- of the nodes from `floor` on that `n` has an edge to, the edge goes to the first
abbrev pub IsNext : Graph → ℕ → ℕ → Option ℕ → Type 0
IsNext g n floor None = Unit {0}
IsNext g n floor (Some m) = (floor ≤ m) × ((k : ℕ) → has_edge g n k ≡ true → floor ≤ k → m ≤ k)

-- the floor behind the edge
abbrev pub floor_after : ℕ → Option ℕ → ℕ
floor_after floor None = floor
floor_after floor (Some m) = m + 1

-- the search has gone on from visit `head` along the edge
abbrev pub GoesOn : Graph → Aim → ℕ → Option ℕ → List Visit → List Met → List Visit → List Met → Type 0
GoesOn g a head next visits seen visits' seen' = (first floor : ℕ) → IsNext g (state_at visits head).node floor next →
    IsSearch g a first head floor visits seen → IsSearch g a first head (floor_after floor next) visits' seen'

-- the search has gone on from visit `head`, which is no end, to each node
abbrev pub IsNextSearch : Graph → Aim → ℕ → List Visit → List Met → List Visit → List Met → Type 0
IsNextSearch g a head visits seen visits' seen' = (first : ℕ) → is_end g a (state_at visits head) ≡ false → IsSearch g a first head 0 visits seen →
    IsSearch g a first (head + 1) 0 visits' seen'
