-- Sets that grow, one effect after the other.
use Rattle.std.proofs.Common.{◌≡◌, ℕ, ◌+◌, ◌<◌, ◌≤◌, ◌⊎◌, ◌↔◌, List, length, Contains, Some, slice_get, get_or, sym, ap, subst, ◌∙◌, arith, inl, inr}
use Rattle.std.proofs.lemmas.Bool.{cases_eq}
use Rattle.std.proofs.lemmas.Option.{slice_get-get_or, get_or_from_slice_get, slice_get_within}
use Rattle.cell_sets.specs.Sets.{Cells}
use Rattle.c_tree.specs.declared.resolved.Resolved.{Resolved}
use Rattle.alias_sets.specs.declared.flows.PointerVar.{PointerVar}
use Rattle.alias_sets.specs.declared.flows.Source.{Source}
use Rattle.alias_sets.specs.declared.flows.Source.TheVariants as source'
use Rattle.alias_sets.specs.Points.{PointsView, ArePointsOf, Holds, MayCome}
use Rattle.access_summary.specs.declared.effects.Effect.{Effect}
use Rattle.access_summary.specs.declared.touch.Access.{Access}
use Rattle.access_summary.specs.Touch.{Adds, LiesIn, EffectTouches, Touches}

pub Adds-same : (old new : Cells) (P Q : ℕ → Type 0) → ((c : ℕ) → P c → Q c) → ((c : ℕ) → Q c → P c) → Adds old new P → Adds old new Q
Adds-same old new P Q to from h = record {
  wide = h.wide;
  kept = h.kept;
  added = λ c l q. h.added c l (from c q);
  only = λ c x. elim (h.only c x) [ inl o ↦ inl o | inr p ↦ inr (to c p) ];
}

pub Adds-then : (old mid new : Cells) (P Q : ℕ → Type 0) → Adds old mid P → Adds mid new Q → Adds old new (λ c. P c ⊎ Q c)
Adds-then old mid new P Q a b = record {
  wide = b.wide ∙ a.wide;
  kept = λ c h. b.kept c (a.kept c h);
  added = λ c l e. elim e [ inl p ↦ b.kept c (a.added c l p) | inr q ↦ let w = a.wide in b.added c (omega arith) q ];
  only = λ c h. elim (b.only c h) [ inl m ↦ elim (a.only c m) [ inl o ↦ inl o | inr p ↦ inr (inl p) ] | inr q ↦ inr (inr q) ];
}

-- one of the effects below place i passes
abbrev pub Among : (Effect → Type 0) → List Effect → ℕ → Type 0
Among T es i = (k : ℕ) × (e : Effect) × (k < i) × (slice_get es k ≡ Some e) × T e

pub one_more : (T : Effect → Type 0) (es : List Effect) (i : ℕ) (d : Effect) → i < length es → Among T es i ⊎ T (get_or es i d) → Among T es (i + 1)
one_more T es i d l h = elim h [
  | inl b ↦ let lt = b.2 in (b.0, b.1, omega arith, b.3, b.4)
  | inr t ↦ (i, get_or es i d, omega arith, slice_get-get_or es i d l, t)
]

pub one_less : (T : Effect → Type 0) (es : List Effect) (i : ℕ) (d : Effect) → Among T es (i + 1) → Among T es i ⊎ T (get_or es i d)
one_less T es i d b = let lt = b.2 in elim (cases_eq b.0 i) [
  | inl same ↦ inr (subst T (sym (ap (λ j. get_or es j d) (sym same) ∙ get_or_from_slice_get es b.0 b.1 d b.3)) b.4)
  | inr other ↦ inl (b.0, b.1, omega arith, b.3, b.4)
]

-- one of the effects below place i touches c
abbrev pub Below : Resolved → Access → List Effect → ℕ → ℕ → Type 0
Below p a es i c = Among (λ e. EffectTouches p a e c) es i

pub effects_step : (p : Resolved) (a : Access) (es : List Effect) (i : ℕ) (d : Effect) (first old new : Cells) → i < length es → Adds first old (Below p a es i) → Adds old new (EffectTouches p a (get_or es i d)) → Adds first new (Below p a es (i + 1))
effects_step p a es i d first old new l h k = Adds-same first new _ _ (λ c. one_more (λ e. EffectTouches p a e c) es i d l) (λ c. one_less (λ e. EffectTouches p a e c) es i d) (Adds-then first old new _ _ h k)

pub effects_end : (p : Resolved) (a : Access) (es : List Effect) (i : ℕ) (first new : Cells) → length es ≤ i → Adds first new (Below p a es i) → Adds first new (Touches p a es)
effects_end p a es i first new l = Adds-same first new _ _ (λ c b. (b.0, b.1, b.3, b.4)) (λ c t. let lt = slice_get_within es t.0 t.1 t.2 in (t.0, t.1, omega arith, t.2, t.3))

-- the objects that a variable may hold
pub objects_of_variable : (p : Resolved) (s : PointsView) (source : Source) (v : PointerVar) (list : List ℕ) (old new : Cells) → source ≡ source'.Variable v → ArePointsOf p s → ((o : ℕ) → Contains list o ↔ Holds s v o) →
    Adds old new (λ c. (o : ℕ) × Contains list o × LiesIn p o c) → Adds old new (λ c. (o : ℕ) × MayCome p source o × LiesIn p o c)
objects_of_variable p s source v list old new is points each =
    Adds-same old new _ _
    (λ c h. let o = h.0 in (o, subst (λ t. MayCome p t o) (sym is) ((points v o).0 ((each o).0 h.1)), h.2))
    (λ c h. let o = h.0 in (o, (each o).1 ((points v o).1 (subst (λ t. MayCome p t o) is h.1)), h.2))
