-- The walk of a run, and the events that its nodes show.
use Rattle.std.specs.Prelude.{◌≡◌, ℕ, true, List, [], ◌∷◌, ◌++◌}
use Rattle.ckpt_base.specs.Event.{Event, Wrote, Byte, Took, Excluded, Checkpoint}
use Rattle.path_laws.specs.declared.graph.Mark.{Mark}
use Rattle.path_laws.specs.declared.graph.Mark.TheVariants as mark'
use Rattle.path_laws.specs.Graph.{Graph, mark_of, may_write, has_edge}

-- the events are stores into cells that pass, bytes written and bytes taken
abbrev pub ShowsOnly : (ℕ → Type 0) → List Event → Type 0
ShowsOnly P [] = Unit {0}
ShowsOnly P (Wrote c ∷ es) = P c × ShowsOnly P es
ShowsOnly P (Byte b ∷ es) = ShowsOnly P es
ShowsOnly P (Took ∷ es) = ShowsOnly P es
ShowsOnly P (Excluded k ∷ es) = ⊥
ShowsOnly P (Checkpoint m t ∷ es) = ⊥

-- the events are stores into cells that node n may write, bytes written and bytes taken
abbrev pub MayShow : Graph → ℕ → List Event → Type 0
MayShow g n es = ShowsOnly (λ c. may_write g n c ≡ true) es

-- what node n shows from when a run comes to it until it goes on, by its mark: a CHECKPOINT_HERE and an EXCLUDE_HERE themselves, any other node what it
-- may, with all calls that it makes
abbrev pub ShowsAs : Graph → ℕ → Mark → List Event → Type 0
ShowsAs g n mark'.Plain es = MayShow g n es
ShowsAs g n mark'.Checkpoint es = (t : ℕ) × (es ≡ Checkpoint n t ∷ [])
ShowsAs g n (mark'.Exclude k) es = es ≡ Excluded k ∷ []

abbrev pub Shows : Graph → ℕ → List Event → Type 0
Shows g n es = ShowsAs g n (mark_of g n) es

-- a run goes along the nodes n and then w, by edges, and these are its events; the last node is where it is
abbrev pub GoesAlong : Graph → ℕ → List ℕ → List Event → Type 0
GoesAlong g n [] es = MayShow g n es
GoesAlong g n (m ∷ w) es =
    (here : List Event) × (later : List Event) × (es ≡ here ++ later) × Shows g n here × (has_edge g n m ≡ true) × GoesAlong g m w later

-- a run from the entry goes along some walk, and these are its events
abbrev pub GoesOnWalk : Graph → List Event → Type 0
GoesOnWalk g es = (w : List ℕ) × GoesAlong g g.entry w es
