-- The types of composed expressions.
use Rattle.std.proofs.Common.{◌≡◌, ℕ, refl, Bool, true, false, if◌then◌else◌, Option, Some, None, sym, ◌∙◌, ap}
use Rattle.c_tree.specs.declared.resolved.RUnary.{RUnary}
use Rattle.c_tree.specs.declared.resolved.RBinary.{RBinary}
use Rattle.c_tree.specs.declared.resolved.RBinary.TheVariants as binary
use Rattle.c_tree.specs.declared.resolved.Direction.{Direction}
use Rattle.c_tree.specs.declared.resolved.RExpr.{RExpr}
use Rattle.c_tree.specs.declared.resolved.RExpr.TheVariants as r
use Rattle.c_tree.specs.declared.resolved.RExpr.TheOpen.{RExpr-F}
use Rattle.c_tree.specs.declared.resolved.RExpr.TheFolds.{fold-roll-RExpr}
use Rattle.c_tree.specs.Kinds.{World, kind, kind_at, of_numbers, of_binary, of_move}

pub object_kind : (w : World) (o : ℕ) → w.has_address o ≡ true → kind w (r.Object o) ≡ Some true
object_kind w o h = ap (kind w) (sym (r.rolls-Object o)) ∙ fold-roll-RExpr (Option Bool) (kind_at w) (RExpr-F.Object o) ∙ ap (λ b. if b then Some true else None) h

pub unary_kind : (w : World) (x : RExpr) (op : RUnary) → kind w x ≡ Some false → kind w (r.Unary op x) ≡ Some false
unary_kind w x op h = ap (kind w) (sym (r.rolls-Unary op x)) ∙ fold-roll-RExpr (Option Bool) (kind_at w) (RExpr-F.Unary op x) ∙ ap (λ a. of_numbers a (Some false)) h

module _ (w : World) (x y : RExpr) where
  pub and_kind : kind w x ≡ Some false → kind w y ≡ Some false → kind w (r.And x y) ≡ Some false
  and_kind h k = ap (kind w) (sym (r.rolls-And x y)) ∙ fold-roll-RExpr (Option Bool) (kind_at w) (RExpr-F.And x y) ∙ ap (λ a. of_numbers a (kind w y)) h ∙ ap (of_numbers (Some false)) k

  pub or_kind : kind w x ≡ Some false → kind w y ≡ Some false → kind w (r.Or x y) ≡ Some false
  or_kind h k = ap (kind w) (sym (r.rolls-Or x y)) ∙ fold-roll-RExpr (Option Bool) (kind_at w) (RExpr-F.Or x y) ∙ ap (λ a. of_numbers a (kind w y)) h ∙ ap (of_numbers (Some false)) k

  both_numbers : (op : RBinary) → of_binary op (Some false) (Some false) ≡ Some false
  both_numbers binary.Add = refl
  both_numbers binary.Sub = refl
  both_numbers binary.Mul = refl
  both_numbers binary.Div = refl
  both_numbers binary.Rem = refl
  both_numbers binary.Shl = refl
  both_numbers binary.Shr = refl
  both_numbers binary.BitAnd = refl
  both_numbers binary.BitOr = refl
  both_numbers binary.BitXor = refl
  both_numbers binary.Equal = refl
  both_numbers binary.Unequal = refl
  both_numbers binary.Less = refl
  both_numbers binary.AtMost = refl
  both_numbers binary.Greater = refl
  both_numbers binary.AtLeast = refl

  pub binary_kind : (op : RBinary) → kind w x ≡ Some false → kind w y ≡ Some false → kind w (r.Binary op x y) ≡ Some false
  binary_kind op h k = ap (kind w) (sym (r.rolls-Binary op x y)) ∙ fold-roll-RExpr (Option Bool) (kind_at w) (RExpr-F.Binary op x y) ∙ ap (λ a. of_binary op a (kind w y)) h ∙ ap (of_binary op (Some false)) k ∙ both_numbers op

  pub equal_kind : (op : RBinary) → of_binary op (Some true) (Some true) ≡ Some false → kind w x ≡ Some true → kind w y ≡ Some true → kind w (r.Binary op x y) ≡ Some false
  equal_kind op e h k = ap (kind w) (sym (r.rolls-Binary op x y)) ∙ fold-roll-RExpr (Option Bool) (kind_at w) (RExpr-F.Binary op x y) ∙ ap (λ a. of_binary op a (kind w y)) h ∙ ap (of_binary op (Some true)) k ∙ e

  pub move_kind : (d : Direction) → kind w x ≡ Some true → kind w y ≡ Some false → kind w (r.Move x y d) ≡ Some true
  move_kind d h k = ap (kind w) (sym (r.rolls-Move x y d)) ∙ fold-roll-RExpr (Option Bool) (kind_at w) (RExpr-F.Move x y d) ∙ ap (λ a. of_move a (kind w y)) h ∙ ap (of_move (Some true)) k
