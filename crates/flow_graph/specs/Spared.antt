-- What the sets of cells that images may leave out promise of a run's events.
use Rattle.std.specs.Prelude.{◌≡◌, ℕ, List, [], ◌∷◌, ◌++◌}
use Rattle.std.specs.List.{Contains}
use Rattle.ckpt_base.specs.Event.{Event, Wrote, Byte, Took, Excluded, Checkpoint}
use Rattle.path_laws.specs.Graph.{Graph}
use Rattle.path_laws.specs.Forgettable.{IsForgettable}
use Rattle.exclusion_equations.specs.Excluded.{IsDead, IsReadOnly}
use Rattle.flow_graph.specs.Agreement.{wrote}

-- no directive was executed
abbrev pub NoneExcluded : List Event → Type 0
NoneExcluded [] = Unit {0}
NoneExcluded (Excluded k ∷ es) = ⊥
NoneExcluded (Wrote c ∷ es) = NoneExcluded es
NoneExcluded (Byte b ∷ es) = NoneExcluded es
NoneExcluded (Took ∷ es) = NoneExcluded es
NoneExcluded (Checkpoint m t ∷ es) = NoneExcluded es

-- For these events and cell c: what is forgettable at a checkpoint is so at each later one until it is written. What is dead after a directive is
-- forgettable at each checkpoint before the next directive, and what is read-only after it is not written on the way there.
pub record IsSpared (g : Graph) (es : List Event) (c : ℕ) : Type 0 where
  pub stays : (k t m u : ℕ) (a b d : List Event) → es ≡ a ++ Checkpoint k t ∷ (b ++ Checkpoint m u ∷ d)
      → IsForgettable g c k → (Contains (wrote b) c → ⊥) → IsForgettable g c m
  pub dead : (k m u : ℕ) (a b d : List Event) → es ≡ a ++ Excluded k ∷ (b ++ Checkpoint m u ∷ d)
      → NoneExcluded b → IsDead g k c → IsForgettable g c m
  pub read_only : (k m u : ℕ) (a b d : List Event) → es ≡ a ++ Excluded k ∷ (b ++ Checkpoint m u ∷ d)
      → NoneExcluded b → IsReadOnly g k c → Contains (wrote b) c → ⊥
