-- The sets of a node have exactly the cells of its effects.
use Rattle.std.proofs.Common.{◌≡◌, ℕ, zero, suc, ◌+◌, ◌<◌, ◌≤◌, ◌↔◌, true, false, ◌||◌, List, [], ◌∷◌, length, Option, Some, Result, Ok, Err, IfOk, OnOk, slice_get, get_or, refl, sym, ap, subst, ◌∙◌, arith, inl, inr}
use Rattle.std.proofs.lemmas.Bool.{cases_lt, false≢true}
use Rattle.std.proofs.lemmas.List.{get_or_past}
use Rattle.std.proofs.lemmas.Option.{none-some, slice_get_within}
use Rattle.ckpt_base.specs.Pointer.{Object, first_cell, object_length}
use Rattle.cell_sets.specs.Sets.{Cells, universe_of, has}
use Rattle.path_laws.proofs.RowLaws.{has_below}
use Rattle.c_tree.specs.declared.resolved.RObject.{RObject}
use Rattle.c_tree.specs.declared.resolved.RFunction.{RFunction}
use Rattle.c_tree.specs.declared.resolved.Resolved.{Resolved}
use Rattle.c_tree.specs.Layout.{objects_from, object_cells, cell_count}
use Rattle.access_summary.specs.declared.effects.Target.{Target}
use Rattle.access_summary.specs.declared.effects.Target.TheVariants as target'
use Rattle.access_summary.specs.declared.effects.Effect.{Effect}
use Rattle.access_summary.specs.declared.effects.Effect.TheVariants as effect
use Rattle.access_summary.specs.declared.touch.Access.{Access}
use Rattle.access_summary.specs.declared.touch.Access.TheVariants as access'
use Rattle.access_summary.specs.Touch.{LiesIn, MayTouch, Touches, target_in, Adds}
use Rattle.access_summary.specs.Summaries.{bodies_from, bodies, body_of, IsCallChain, ReachesAccess, AreSets}
use Rattle.access_summary.proofs.CallLaws.{calls_within}
use Rattle.access_summary.proofs.Adding.{Adds-same, Adds-then, Among, one_more, one_less}
use Rattle.flow_graph.specs.NodeEffects.{StoreKills}
use Rattle.flow_graph.specs.EffectCells.{IsSetOf, HasOnly, EffectDoes, EffectsDo}
use Rattle.flow_graph.proofs.Touching.{adds_union, on_ok_both}

-- ---- one effect after the other

pub effects_step : (p : Resolved) (a : Access) (es : List Effect) (i : ℕ) (d : Effect) (first old new : Cells) → i < length es → Adds first old (λ c. Among (λ e. EffectDoes p a e c) es i) → Adds old new (λ c. EffectDoes p a (get_or es i d) c) →
    Adds first new (λ c. Among (λ e. EffectDoes p a e c) es (i + 1))
effects_step p a es i d first old new l h k = Adds-same first new _ _ (λ c. one_more (λ e. EffectDoes p a e c) es i d l) (λ c. one_less (λ e. EffectDoes p a e c) es i d) (Adds-then first old new _ _ h k)

of_one : (p : Resolved) (a : Access) (es : List Effect) (k : ℕ) (e : Effect) (c : ℕ) → slice_get es k ≡ Some e → EffectDoes p a e c → EffectsDo p a es c
of_one p a es k (effect.Call g) c at d = inr (g, k, at, d)
of_one p access'.Read es k (effect.Read t) c at d = inl (k, effect.Read t, at, (t, refl, d))
of_one p access'.Write es k (effect.Read t) c at d = absurd d
of_one p access'.Read es k (effect.Write t) c at d = absurd d
of_one p access'.Write es k (effect.Write t) c at d = inl (k, effect.Write t, at, (t, refl, d))

does_so : (p : Resolved) (a : Access) (e : Effect) (t : Target) (c : ℕ) → target_in a e ≡ Some t → MayTouch p t c → EffectDoes p a e c
does_so p access'.Read (effect.Call g) t c e m = absurd (none-some t e)
does_so p access'.Write (effect.Call g) t c e m = absurd (none-some t e)
does_so p access'.Read (effect.Read u) t c e m = let same : t ≡ u = cc in subst (λ x. MayTouch p x c) same m
does_so p access'.Write (effect.Read u) t c e m = absurd (none-some t e)
does_so p access'.Read (effect.Write u) t c e m = absurd (none-some t e)
does_so p access'.Write (effect.Write u) t c e m = let same : t ≡ u = cc in subst (λ x. MayTouch p x c) same m

one_of : (p : Resolved) (a : Access) (es : List Effect) (i c : ℕ) → length es ≤ i → EffectsDo p a es c → Among (λ e. EffectDoes p a e c) es i
one_of p a es i c l h = elim h [
  | inl t ↦ let lt = slice_get_within es t.0 t.1 t.2 in (t.0, t.1, omega arith, t.2, does_so p a t.1 t.3.0 c t.3.1 t.3.2)
  | inr t ↦ let lt = slice_get_within es t.1 (effect.Call t.0) t.2 in (t.1, effect.Call t.0, omega arith, t.2, t.3)
]

pub effects_end : (p : Resolved) (a : Access) (es : List Effect) (i : ℕ) (first new : Cells) → length es ≤ i → Adds first new (λ c. Among (λ e. EffectDoes p a e c) es i) → Adds first new (λ c. EffectsDo p a es c)
effects_end p a es i first new l = Adds-same first new _ _ (λ c b. of_one p a es b.0 b.1 c b.3 b.4) (λ c. one_of p a es i c l)

-- ---- sets

-- what was added to the empty set is the set
pub set_of_added : (p : Resolved) (P : ℕ → Type 0) (old new : Cells) → universe_of old ≡ cell_count p → ((q : ℕ) → has old q ≡ false) → Adds old new P → IsSetOf p P new
set_of_added p P old new wide none h = record {
  universe = h.wide ∙ wide;
  exact = λ c l. (
    (λ x. elim (h.only c x) [ inl o ↦ absurd (false≢true (sym (none c) ∙ o)) | inr q ↦ q ]),
    (λ q. h.added c (omega arith) q),
  );
}

-- ---- calls

-- only a function that is there reaches something
reaches_within : (p : Resolved) (a : Access) (bs : List (List Effect)) (f : ℕ) (w : List ℕ) (g c : ℕ) → IsCallChain bs f w g → Touches p a (body_of bs g) c → f < length bs
reaches_within p a bs f [] g c e t = elim (cases_lt f (length bs)) [
  | inl l ↦ l
  | inr past ↦ absurd (none-some t.1 (ap (λ es. slice_get es t.0) (sym (ap (body_of bs) (sym e) ∙ get_or_past bs f [] past)) ∙ t.2))
]
reaches_within p a bs f (h ∷ w) g c ch t = calls_within bs f h ch.0

length-bodies : (f : ℕ) (gs : List RFunction) → length (bodies_from f gs) ≡ length gs
length-bodies f [] = refl
length-bodies f (g ∷ gs) = let k = length-bodies (f + 1) gs in omega arith

pub no_function : (p : Resolved) (a : Access) (f c : ℕ) → length p.functions ≤ f → ReachesAccess p (bodies p) a f c → ⊥
no_function p a f c past r = let l = reaches_within p a (bodies p) f r.1 r.0 c r.2 r.3 in let n = length-bodies 0 p.functions in absurd (omega arith)

-- the summary of a function was added
pub adds_called : (p : Resolved) (a : Access) (sets : List Cells) (f : ℕ) (old other new : Cells) → AreSets (cell_count p) (length p.functions) (ReachesAccess p (bodies p) a) sets → f < length p.functions → other ≡ get_or sets f [] → universe_of old ≡ cell_count p →
    universe_of new ≡ universe_of old → ((q : ℕ) → has new q ≡ (has old q || has other q)) → Adds old new (λ c. ReachesAccess p (bodies p) a f c)
adds_called p a sets f old other new are l is cells wide both =
    let long = are.len in let room : f < length sets = omega arith in adds_union old other new (λ c. ReachesAccess p (bodies p) a f c) wide both
    (λ c lc r. ap (λ s. has s c) is ∙ (are.exact f c l (omega arith)).1 r)
    (λ c h. let here = sym (ap (λ s. has s c) is) ∙ h in let w = are.wide f room in let b = has_below (get_or sets f []) c here in (are.exact f c l (omega arith)).0 here)

pub called_on_ok : {T E : Type 0} (r : Result T E) (p : Resolved) (a b : Access) (sets : List Cells) (f : ℕ) (old other new : Cells) → b ≡ a → AreSets (cell_count p) (length p.functions) (ReachesAccess p (bodies p) a) sets → f < length p.functions → other ≡ get_or sets f [] → universe_of old ≡ cell_count p →
    OnOk r (universe_of new ≡ universe_of old) → OnOk r ((q : ℕ) → has new q ≡ (has old q || has other q)) → OnOk r (Adds old new (λ c. ReachesAccess p (bodies p) b f c))
called_on_ok r p a b sets f old other new same are l is wide =
    on_ok_both r (universe_of new ≡ universe_of old) ((q : ℕ) → has new q ≡ (has old q || has other q)) (λ u h. subst (λ x. Adds old new (λ c. ReachesAccess p (bodies p) x f c)) (sym same) (adds_called p a sets f old other new are l is wide u h))

-- ---- kills

object_within : (first : ℕ) (os : List RObject) (o : ℕ) (b : Object) → slice_get (objects_from first os) o ≡ Some b → first_cell b + object_length b ≤ first + object_cells os
object_within first [] o b e = absurd (none-some b e)
object_within first (x ∷ os) zero b e = let same : (first, x.length) ≡ b = cc in let f = ap (λ (t : ℕ × ℕ). t.0) same in let n = ap (λ (t : ℕ × ℕ). t.1) same in omega arith
object_within first (x ∷ os) (suc o) b e = let h = object_within (first + x.length) os o b e in omega arith

pub lies_within : (p : Resolved) (o c : ℕ) → LiesIn p o c → c < cell_count p
lies_within p o c h = let w = object_within 0 p.objects o h.0 h.1 in let z = h.3 in omega arith

-- an access that may touch a cell of the program may touch only such cells
touches_within : (p : Resolved) (t : Target) (c d : ℕ) → c < cell_count p → MayTouch p t c → MayTouch p t d → d < cell_count p
touches_within p (target'.Cell x) c d l m n = omega arith
touches_within p (target'.Element o k) c d l m n = let w = object_within 0 p.objects o n.0 n.2 in let z = n.4 in let e = n.5 in omega arith
touches_within p (target'.Objects s) c d l m n = lies_within p n.0 d n.2

kills_exact : (p : Resolved) (s : Option Target) (t : Target) (full kills : Cells) → s ≡ Some t → IsSetOf p (λ c. MayTouch p t c) full → universe_of kills ≡ universe_of full → ((c : ℕ) → (has kills c ≡ true) ↔ HasOnly full c) → IsSetOf p (λ c. StoreKills p s c) kills
kills_exact p s t full kills is set wide each = record {
  universe = wide ∙ set.universe;
  exact = λ c l. (
    (λ h. let o = (each c).0 h in let m = (set.exact c l).0 o.0 in (t, is, m, λ d n. o.1 d ((set.exact d (touches_within p t c d l m n)).1 n))),
    (λ k. let same : k.0 ≡ t = cc in (each c).1 (
      (set.exact c l).1 (subst (λ u. MayTouch p u c) same k.2),
      λ d h. let b = has_below full d h in let u = set.universe in k.3 d (subst (λ u. MayTouch p u d) (sym same) ((set.exact d (omega arith)).0 h)),
    )),
  );
}

-- the one cell that was added to the empty set is killed
pub kills_if_ok : {E : Type 0} (r : Result Cells E) (p : Resolved) (s : Option Target) (t : Target) (old full : Cells) → s ≡ Some t → universe_of old ≡ cell_count p → ((q : ℕ) → has old q ≡ false) → Adds old full (λ c. MayTouch p t c) →
    IfOk r (λ k. universe_of k ≡ universe_of full) → IfOk r (λ k. (c : ℕ) → (has k c ≡ true) ↔ HasOnly full c) → IfOk r (λ k. IsSetOf p (λ c. StoreKills p s c) k)
kills_if_ok (Ok k) p s t old full is wide none added same each = kills_exact p s t full k is (set_of_added p (λ c. MayTouch p t c) old full wide none added) same each
kills_if_ok (Err e) p s t old full is wide none added same each = tt
