-- Need walks and write walks by the states that they come to.
use Rattle.std.specs.Prelude.{ℕ, ◌≡◌, Bool, true, false, ◌&&◌, ◌||◌, not, List, [], ◌∷◌}
use Rattle.path_laws.specs.Graph.{Graph, has_edge, may_read, may_write, kills, is_checkpoint, is_exclude}
use Rattle.exclusion_reason.specs.declared.aim.Aim.{Aim}
use Rattle.exclusion_reason.specs.declared.aim.Aim.TheVariants.{Need, Write}
use Rattle.exclusion_reason.specs.declared.aim.State.{State}

-- whether node n may be the turn: the checkpoint of a need, the writing node of a write
abbrev pub turns_at : Graph → Aim → ℕ → Bool
turns_at g (Need c) n = is_checkpoint g n
turns_at g (Write c) n = may_write g n c && not (is_exclude g n)

-- whether node n may stand behind the turn
abbrev pub may_follow : Graph → Aim → ℕ → Bool
may_follow g (Need c) n = true
may_follow g (Write c) n = not (is_exclude g n)

-- whether a walk may not go on from node n behind the turn
abbrev pub stops_at : Graph → Aim → ℕ → Bool
stops_at g (Need c) n = kills g n c
stops_at g (Write c) n = false

-- whether node n behind the turn may be the last
abbrev pub ends_at : Graph → Aim → ℕ → Bool
ends_at g (Need c) n = may_read g n c
ends_at g (Write c) n = is_checkpoint g n

-- whether the node after this state may lie behind the turn
abbrev pub passes : Graph → Aim → State → Bool
passes g a s = (s.free && turns_at g a s.node) || (s.behind && not (stops_at g a s.node))

-- the state of a walk with one node
abbrev pub start : ℕ → State
start n = record { node = n; free = true; behind = false }

-- the state of a walk that goes on from this state to node m
abbrev pub after : Graph → Aim → State → ℕ → State
after g a s m = record { node = m; free = s.free && not (is_exclude g m); behind = may_follow g a m && passes g a s }

-- whether a walk in this state shows what it has to
abbrev pub is_end : Graph → Aim → State → Bool
is_end g a s = s.behind && ends_at g a s.node

-- the nodes of w lead by edges from this state to an end
abbrev pub LeadsOn : Graph → Aim → State → List ℕ → Type 0
LeadsOn g a s [] = is_end g a s ≡ true
LeadsOn g a s (m ∷ w) = (has_edge g s.node m ≡ true) × LeadsOn g a (after g a s m) w

-- the walk begins at node n and shows what it has to
abbrev pub IsWay : Graph → Aim → ℕ → List ℕ → Type 0
IsWay g a n walk = (w : List ℕ) × ((walk ≡ n ∷ w) × LeadsOn g a (start n) w)
