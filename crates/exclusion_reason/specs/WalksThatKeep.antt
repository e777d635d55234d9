-- The walks that keep a cell in the images.
use Rattle.std.specs.Prelude.{ℕ, ◌≡◌, true, false, List, [], ◌∷◌, ◌++◌}
use Rattle.path_laws.specs.Graph.{Graph, may_read, may_write, kills, is_checkpoint, is_directive}
use Rattle.path_laws.specs.Walks.{IsWalk, NoExclude}

-- no node of the list kills c
abbrev pub NoKill : Graph → ℕ → List ℕ → Type 0
NoKill g c [] = Unit {0}
NoKill g c (n ∷ w) = (kills g n c ≡ false) × NoKill g c w

-- A need walk leaves EXCLUDE_HERE k, comes to a CHECKPOINT_HERE with no EXCLUDE_HERE on the way, and ends at a later node that may read c,
-- with no node between the two that kills c.
pub record IsNeedWalk (g : Graph) (k c : ℕ) (walk : List ℕ) : Type 0 where
  pub exclude : ℕ
  pub before : List ℕ
  pub checkpoint : ℕ
  pub between : List ℕ
  pub read : ℕ
  pub parts : walk ≡ exclude ∷ (before ++ (checkpoint ∷ (between ++ (read ∷ []))))
  pub joined : IsWalk g walk
  pub leaves : is_directive g k exclude ≡ true
  pub free : NoExclude g (before ++ (checkpoint ∷ []))
  pub reaches : is_checkpoint g checkpoint ≡ true
  pub unkilled : NoKill g c between
  pub reads : may_read g read c ≡ true

-- A write walk leaves EXCLUDE_HERE k, comes to a node that may write c, and ends at a later CHECKPOINT_HERE, with no EXCLUDE_HERE behind
-- its first node.
pub record IsWriteWalk (g : Graph) (k c : ℕ) (walk : List ℕ) : Type 0 where
  pub exclude : ℕ
  pub before : List ℕ
  pub write : ℕ
  pub between : List ℕ
  pub checkpoint : ℕ
  pub parts : walk ≡ exclude ∷ (before ++ (write ∷ (between ++ (checkpoint ∷ []))))
  pub joined : IsWalk g walk
  pub leaves : is_directive g k exclude ≡ true
  pub free : NoExclude g (before ++ (write ∷ (between ++ (checkpoint ∷ []))))
  pub writes : may_write g write c ≡ true
  pub reaches : is_checkpoint g checkpoint ≡ true
