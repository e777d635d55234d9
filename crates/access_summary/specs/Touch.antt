-- Cells that an access may touch.
use Rattle.std.specs.Prelude.{◌≡◌, ℕ, ◌+◌, ◌<◌, ◌≤◌, ◌⊎◌, ℤ, pos, negsuc, true, List, Option, Some, None, slice_get}
use Rattle.ckpt_base.specs.Word.{signed, word_of}
use Rattle.ckpt_base.specs.Pointer.{Object, first_cell, object_length}
use Rattle.cell_sets.specs.Sets.{Cells, universe_of, has}
use Rattle.c_tree.specs.declared.resolved.Resolved.{Resolved}
use Rattle.c_tree.specs.Layout.{objects}
use Rattle.alias_sets.specs.Points.{MayCome}
use Rattle.access_summary.specs.declared.effects.Target.{Target}
use Rattle.access_summary.specs.declared.effects.Target.TheVariants as target'
use Rattle.access_summary.specs.declared.effects.Effect.{Effect}
use Rattle.access_summary.specs.declared.effects.Effect.TheVariants as effect
use Rattle.access_summary.specs.declared.touch.Access.{Access}
use Rattle.access_summary.specs.declared.touch.Access.TheVariants as access'

-- a negative number is no place
abbrev pub place_of : ℤ → Option ℕ
place_of (pos n) = Some n
place_of (negsuc n) = None

-- the place that a number of the text is, as a word
abbrev pub word_place : ℤ → Option ℕ
word_place k = place_of (signed (word_of k))

-- cell c lies in object o
abbrev pub LiesIn : Resolved → ℕ → ℕ → Type 0
LiesIn p o c = (b : Object) × (slice_get (objects p) o ≡ Some b) × (first_cell b ≤ c) × (c < first_cell b + object_length b)

-- cell c is at place k of object o
abbrev pub IsAtPlace : Resolved → ℕ → ℤ → ℕ → Type 0
IsAtPlace p o k c = (b : Object) × (n : ℕ) × (slice_get (objects p) o ≡ Some b) × (word_place k ≡ Some n) × (n < object_length b) × (c ≡ first_cell b + n)

-- an access may touch cell c
abbrev pub MayTouch : Resolved → Target → ℕ → Type 0
MayTouch p (target'.Cell d) c = c ≡ d
MayTouch p (target'.Element o k) c = IsAtPlace p o k c
MayTouch p (target'.Objects s) c = (o : ℕ) × MayCome p s o × LiesIn p o c

-- what a read, or a write, is of
abbrev pub target_in : Access → Effect → Option Target
target_in access'.Read (effect.Read t) = Some t
target_in access'.Write (effect.Write t) = Some t
target_in a e = None

-- a read, or a write, may touch cell c
abbrev pub EffectTouches : Resolved → Access → Effect → ℕ → Type 0
EffectTouches p a e c = (t : Target) × (target_in a e ≡ Some t) × MayTouch p t c

-- so may one of the effects
abbrev pub Touches : Resolved → Access → List Effect → ℕ → Type 0
Touches p a es c = (k : ℕ) × (e : Effect) × (slice_get es k ≡ Some e) × EffectTouches p a e c

-- the new set has the cells of the old one and those of its universe that pass, and no other
pub record Adds (old new : Cells) (P : ℕ → Type 0) : Type 0 where
  pub wide : universe_of new ≡ universe_of old
  pub kept : (c : ℕ) → has old c ≡ true → has new c ≡ true
  pub added : (c : ℕ) → c < universe_of old → P c → has new c ≡ true
  pub only : (c : ℕ) → has new c ≡ true → (has old c ≡ true) ⊎ P c
