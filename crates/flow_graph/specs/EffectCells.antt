-- The cells of effects, as sets.
use Rattle.std.specs.Prelude.{◌≡◌, ◌↔◌, ℕ, ◌<◌, ◌⊎◌, true, List}
use Rattle.cell_sets.specs.Sets.{Cells, universe_of, has}
use Rattle.c_tree.specs.declared.resolved.Resolved.{Resolved}
use Rattle.c_tree.specs.Layout.{cell_count}
use Rattle.access_summary.specs.declared.effects.Effect.{Effect}
use Rattle.access_summary.specs.declared.effects.Effect.TheVariants as effect
use Rattle.access_summary.specs.declared.touch.Access.{Access}
use Rattle.access_summary.specs.declared.touch.Access.TheVariants as access'
use Rattle.access_summary.specs.Touch.{MayTouch, Touches}
use Rattle.access_summary.specs.Summaries.{ReachesAccess, bodies}
use Rattle.flow_graph.specs.NodeEffects.{CalledTouches}

-- the set has exactly the cells of the program that pass
pub record IsSetOf (p : Resolved) (P : ℕ → Type 0) (s : Cells) : Type 0 where
  pub universe : universe_of s ≡ cell_count p
  pub exact : (c : ℕ) → c < cell_count p → (has s c ≡ true) ↔ P c

-- a set has cell c, and no other
abbrev pub HasOnly : Cells → ℕ → Type 0
HasOnly s c = (has s c ≡ true) × ((d : ℕ) → has s d ≡ true → d ≡ c)

-- an effect may read, or write, cell c; a call does what its function may
abbrev pub EffectDoes : Resolved → Access → Effect → ℕ → Type 0
EffectDoes p a (effect.Call g) c = ReachesAccess p (bodies p) a g c
EffectDoes p access'.Read (effect.Read t) c = MayTouch p t c
EffectDoes p access'.Read (effect.Write t) c = ⊥
EffectDoes p access'.Write (effect.Read t) c = ⊥
EffectDoes p access'.Write (effect.Write t) c = MayTouch p t c

-- one of the effects may, itself or by a call
abbrev pub EffectsDo : Resolved → Access → List Effect → ℕ → Type 0
EffectsDo p a es c = Touches p a es c ⊎ CalledTouches (ReachesAccess p (bodies p) a) es c
