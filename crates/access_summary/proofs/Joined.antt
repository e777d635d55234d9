-- Effects that are appended one after the other.
use Rattle.std.proofs.Common.{◌≡◌, ℕ, List, [], ◌∷◌, ◌++◌, Option, refl, sym, ap, ◌∙◌, append_assoc}
use Rattle.c_tree.specs.declared.resolved.Direction.{Direction}
use Rattle.c_tree.specs.declared.resolved.Direction.TheVariants.{Forward}
use Rattle.c_tree.specs.declared.resolved.RExpr.{RExpr}
use Rattle.c_tree.specs.declared.resolved.RExpr.TheVariants as expr
use Rattle.c_tree.specs.declared.resolved.RExpr.TheOpen.{RExpr-F}
use Rattle.c_tree.specs.declared.resolved.RExpr.TheFolds.{fold-roll-RExpr}
use Rattle.alias_sets.specs.declared.flows.Source.{Source}
use Rattle.alias_sets.specs.Flows.{source, source_at}
use Rattle.access_summary.specs.declared.effects.Named.{Named}
use Rattle.access_summary.specs.declared.effects.Named.TheVariants as named'
use Rattle.access_summary.specs.declared.effects.Target.{Target}
use Rattle.access_summary.specs.declared.effects.Effect.{Effect}
use Rattle.access_summary.specs.declared.effects.Effect.TheVariants as effect
use Rattle.access_summary.specs.Effects.{source_in, moved, target, Seen, seen, seen_at, expr_effects}

pub two : (old mid new x y : List Effect) → mid ≡ old ++ x → new ≡ mid ++ y → new ≡ old ++ (x ++ y)
two old mid new x y a b = b ∙ ap (λ m. m ++ y) a ∙ append_assoc old x y

seen_move : (f : Option ℕ) (p n : RExpr) (d : Direction) → seen f (expr.Move p n d) ≡ seen_at f (RExpr-F.Move (seen f p) (seen f n) d)
seen_move f p n d = ap (seen f) (sym (expr.rolls-Move p n d)) ∙ fold-roll-RExpr Seen (seen_at f) (RExpr-F.Move p n d)

seen_fetch : (f : Option ℕ) (p : RExpr) → seen f (expr.Fetch p) ≡ seen_at f (RExpr-F.Fetch (seen f p))
seen_fetch f p = ap (seen f) (sym (expr.rolls-Fetch p)) ∙ fold-roll-RExpr Seen (seen_at f) (RExpr-F.Fetch p)

source_move : (f : Option ℕ) (p n : RExpr) (d : Direction) → source f (expr.Move p n d) ≡ source f p
source_move f p n d = ap (source f) (sym (expr.rolls-Move p n d)) ∙ fold-roll-RExpr Source (source_at f) (RExpr-F.Move p n d)

-- one expression after the other
pub both : (f : Option ℕ) (old mid new : List Effect) (p n p' n' : RExpr) → p' ≡ p → n' ≡ n → mid ≡ old ++ expr_effects f p' → new ≡ mid ++ expr_effects f n' → new ≡ old ++ (expr_effects f p ++ expr_effects f n)
both f old mid new p n p' n' hp hn a b = two old mid new _ _ (a ∙ ap (λ e. old ++ expr_effects f e) hp) (b ∙ ap (λ e. mid ++ expr_effects f e) hn)

-- a moved pointer comes from where the pointer comes from
moved_source : (d : Direction) (p n : Named) → source_in (moved d p n) ≡ source_in p
moved_source Forward (named'.Object o) (named'.Number k) = refl
moved_source d p n = refl

pub source_of_move : (f : Option ℕ) (e p n p' : RExpr) (d : Direction) (x y z : Named) → e ≡ expr.Move p n d → p' ≡ p → z ≡ moved d x y → source_in x ≡ source f p' → source_in z ≡ source f e
source_of_move f e p n p' d x y z he hp hz hx = ap source_in hz ∙ moved_source d x y ∙ hx ∙ ap (source f) hp ∙ sym (ap (source f) he ∙ source_move f p n d)

pub effects_of_move : (f : Option ℕ) (old mid new : List Effect) (e p n p' n' : RExpr) (d : Direction) → e ≡ expr.Move p n d → p' ≡ p → n' ≡ n → mid ≡ old ++ expr_effects f p' → new ≡ mid ++ expr_effects f n' → new ≡ old ++ expr_effects f e
effects_of_move f old mid new e p n p' n' d he hp hn a b = both f old mid new p n p' n' hp hn a b ∙ ap (λ x. old ++ x) (sym (ap (expr_effects f) he ∙ ap (λ s. s.effects) (seen_move f p n d)))

pub effects_of_fetch : (f : Option ℕ) (old mid new : List Effect) (e p p' : RExpr) (x : Named) (t : Target) → e ≡ expr.Fetch p → p' ≡ p → x ≡ (seen f p').named → t ≡ target x → mid ≡ old ++ expr_effects f p' → new ≡ mid ++ effect.Read t ∷ [] → new ≡ old ++ expr_effects f e
effects_of_fetch f old mid new e p p' x t he hp hx ht a b =
    two old mid new _ _ (a ∙ ap (λ y. old ++ expr_effects f y) hp) (b ∙ ap (λ y. mid ++ effect.Read y ∷ []) (ht ∙ ap target (hx ∙ ap (λ y. (seen f y).named) hp))) ∙ ap (λ x. old ++ x) (sym (ap (expr_effects f) he ∙ ap (λ s. s.effects) (seen_fetch f p)))

-- three parts, one after the other
pub three : (old a b new x y z : List Effect) → a ≡ old ++ x → b ≡ a ++ y → new ≡ b ++ z → new ≡ old ++ (x ++ (y ++ z))
three old a b new x y z ha hb hn = two old a new x (y ++ z) ha (two a b new y z hb hn)
