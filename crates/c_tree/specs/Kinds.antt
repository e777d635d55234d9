-- The types of a resolved tree: which expressions are numbers and which pointers, and which statements keep the rules (C99 6.5, 6.8).
use Rattle.std.specs.Prelude.{ℕ, Bool, true, false, ◌&&◌, if◌then◌else◌, List, [], ◌∷◌, length, count_by, nat_eq, Option, Some, None, is_some}
use Rattle.std.specs.List.{list_all}
use Rattle.c_tree.specs.declared.tree.PrintPiece.{PrintPiece}
use Rattle.c_tree.specs.declared.tree.PrintPiece.TheVariants as print
use Rattle.c_tree.specs.declared.resolved.RBinary.{RBinary}
use Rattle.c_tree.specs.declared.resolved.RBinary.TheVariants as binary
use Rattle.c_tree.specs.declared.resolved.RExpr.{RExpr}
use Rattle.c_tree.specs.declared.resolved.RExpr.TheOpen.{RExpr-F}
use Rattle.c_tree.specs.declared.resolved.RExpr.TheFolds.{fold-RExpr}
use Rattle.c_tree.specs.declared.resolved.RPlace.{RPlace}
use Rattle.c_tree.specs.declared.resolved.RPlace.TheVariants as place
use Rattle.c_tree.specs.declared.resolved.RAssign.{RAssign}
use Rattle.c_tree.specs.declared.resolved.RInit.{RInit}
use Rattle.c_tree.specs.declared.resolved.RInit.TheVariants as init
use Rattle.c_tree.specs.declared.resolved.RStmt.{RStmt}
use Rattle.c_tree.specs.declared.resolved.RStmt.TheOpen.{RStmt-F, RArm-F}
use Rattle.c_tree.specs.declared.resolved.RStmt.TheFolds.{fold-RStmt}

-- what a call of a function takes and answers: which of its parameters are pointers, and whether its answer is one
pub record Signature : Type 0 where
  pub parameters : List Bool
  pub gives_pointer : Bool

-- what the numbers of a body name: variables by whether they are pointers, objects that have an address, functions; and the function that the body is of
pub record World : Type 0 where
  pub cell : ℕ → Option Bool
  pub local : ℕ → Option Bool
  pub has_address : ℕ → Bool
  pub function : ℕ → Option Signature
  pub gives_pointer : Bool
  pub is_main : Bool

-- ---- expressions: Some true for a pointer, Some false for a number, None for what breaks a rule

-- two numbers give a number
abbrev pub of_numbers : Option Bool → Option Bool → Option Bool
of_numbers (Some false) (Some false) = Some false
of_numbers a b = None

-- two numbers, or two pointers, are compared (C99 6.5.9)
abbrev pub of_alike : Option Bool → Option Bool → Option Bool
of_alike (Some true) (Some true) = Some false
of_alike a b = of_numbers a b

abbrev pub of_binary : RBinary → Option Bool → Option Bool → Option Bool
of_binary binary.Equal a b = of_alike a b
of_binary binary.Unequal a b = of_alike a b
of_binary op a b = of_numbers a b

-- a pointer is moved by a number (C99 6.5.6)
abbrev pub of_move : Option Bool → Option Bool → Option Bool
of_move (Some true) (Some false) = Some true
of_move p n = None

-- what a pointer names is a number (C99 6.5.3.2)
abbrev pub of_pointed : Option Bool → Option Bool
of_pointed (Some true) = Some false
of_pointed p = None

abbrev pub kind_at : World → RExpr-F (Option Bool) → Option Bool
kind_at w (RExpr-F.Num n) = Some false
kind_at w (RExpr-F.Cell c) = w.cell c
kind_at w (RExpr-F.Local i) = w.local i
kind_at w (RExpr-F.Object o) = if w.has_address o then Some true else None
kind_at w RExpr-F.Null = Some true
kind_at w (RExpr-F.Unary op x) = of_numbers x (Some false)
kind_at w (RExpr-F.Binary op x y) = of_binary op x y
kind_at w (RExpr-F.And x y) = of_numbers x y
kind_at w (RExpr-F.Or x y) = of_numbers x y
kind_at w (RExpr-F.Move p n d) = of_move p n
kind_at w (RExpr-F.Fetch p) = of_pointed p

-- whether an expression is a pointer, where it keeps the rules
abbrev pub kind : World → RExpr → Option Bool
kind w = fold-RExpr (Option Bool) (kind_at w)

-- ---- statements

-- both are numbers, or both are pointers
abbrev pub agree : Option Bool → Option Bool → Bool
agree (Some false) (Some false) = true
agree (Some true) (Some true) = true
agree a b = false

abbrev pub is_number : World → RExpr → Bool
is_number w e = agree (Some false) (kind w e)

-- an absent condition is the number 1
abbrev pub is_test : World → Option RExpr → Bool
is_test w None = true
is_test w (Some e) = is_number w e

abbrev pub place_kind : World → RPlace → Option Bool
place_kind w (place.Cell c) = w.cell c
place_kind w (place.Local i) = w.local i
place_kind w (place.At e) = of_pointed (kind w e)

-- a declared name is a variable
abbrev pub is_variable : World → RPlace → Bool
is_variable w (place.Cell c) = is_some (w.cell c)
is_variable w (place.Local i) = is_some (w.local i)
is_variable w (place.At e) = false

-- what is stored is of the type of its place (C99 6.5.16.1)
abbrev pub stores : World → RPlace → Option Bool → Bool
stores w p value = agree (place_kind w p) value

-- what a call answers may be stored, and is then stored in a variable
abbrev pub answers : World → Option RPlace → Option Bool → Bool
answers w None value = is_some value
answers w (Some p) value = is_variable w p && stores w p value

abbrev pub starts : World → RPlace → Option RExpr → Bool
starts w p None = is_variable w p
starts w p (Some e) = is_variable w p && stores w p (kind w e)

abbrev pub assigns : World → RAssign → Bool
assigns w a = stores w a.place (kind w a.value)

abbrev pub updates : World → Option RAssign → Bool
updates w None = true
updates w (Some a) = assigns w a

abbrev pub begins : World → Option RInit → Bool
begins w None = true
begins w (Some (init.Declare a)) = starts w a.place (Some a.value)
begins w (Some (init.Set a)) = assigns w a

-- there is an argument for each parameter, of its type (C99 6.5.2.2)
abbrev pub are_given : World → List Bool → List RExpr → Bool
are_given w [] [] = true
are_given w (p ∷ ps) (e ∷ es) = agree (Some p) (kind w e) && are_given w ps es
are_given w ps es = false

abbrev pub answer_of : World → Option Signature → List RExpr → Option Bool
answer_of w None es = None
answer_of w (Some f) es = if are_given w f.parameters es then Some f.gives_pointer else None

-- whether a call answers a pointer, where it keeps the rules
abbrev pub call_kind : World → ℕ → List RExpr → Option Bool
call_kind w f es = answer_of w (w.function f) es

abbrev pub returns : World → Option Bool → Bool
returns w value = agree (Some w.gives_pointer) value

abbrev pub is_hole : PrintPiece → Bool
is_hole (print.Byte b) = false
is_hole print.Number = true

-- there is a number for each `%ld`
abbrev pub prints : World → List PrintPiece → List RExpr → Bool
prints w ps es = nat_eq (length es) (count_by is_hole ps) && list_all (is_number w) es

-- the last statement of an `if`, which may be absent
abbrev pub holds_last : Option (Bool → Bool) → Bool → Bool
holds_last None in_loop = true
holds_last (Some s) in_loop = s in_loop

-- whether a statement keeps the rules, from its parts, in a loop or not. Directives stand in `main` alone
abbrev pub keeps_rules_at : World → RStmt-F (Bool → Bool) (Bool → Bool) → Bool → Bool
keeps_rules_at w RStmt-F.Empty in_loop = true
keeps_rules_at w (RStmt-F.Declare p e) in_loop = starts w p e
keeps_rules_at w (RStmt-F.Set p e) in_loop = stores w p (kind w e)
keeps_rules_at w (RStmt-F.Call p f es) in_loop = answers w p (call_kind w f es)
keeps_rules_at w (RStmt-F.Input p) in_loop = answers w p (Some false)
keeps_rules_at w (RStmt-F.Return e) in_loop = returns w (kind w e)
keeps_rules_at w (RStmt-F.ReturnCall f es) in_loop = returns w (call_kind w f es)
keeps_rules_at w RStmt-F.ReturnInput in_loop = returns w (Some false)
keeps_rules_at w (RStmt-F.Put e) in_loop = is_number w e
keeps_rules_at w (RStmt-F.Print ps es) in_loop = prints w ps es
keeps_rules_at w (RStmt-F.If arms last) in_loop = list_all (λ a. a in_loop) arms && holds_last last in_loop
keeps_rules_at w (RStmt-F.While e s) in_loop = is_number w e && s true
keeps_rules_at w (RStmt-F.Do s e) in_loop = s true && is_number w e
keeps_rules_at w (RStmt-F.For init e update s) in_loop = begins w init && is_test w e && updates w update && s true
keeps_rules_at w (RStmt-F.Block ss) in_loop = list_all (λ s. s in_loop) ss
keeps_rules_at w RStmt-F.Break in_loop = in_loop
keeps_rules_at w RStmt-F.Continue in_loop = in_loop
keeps_rules_at w RStmt-F.Checkpoint in_loop = w.is_main
keeps_rules_at w (RStmt-F.Exclude k) in_loop = w.is_main

abbrev pub arm_keeps_rules_at : World → RArm-F (Bool → Bool) (Bool → Bool) → Bool → Bool
arm_keeps_rules_at w a in_loop = is_number w a.test && a.body in_loop

-- whether a statement keeps the rules, in a loop or not
abbrev pub keeps_rules : World → RStmt → Bool → Bool
keeps_rules w = fold-RStmt (Bool → Bool) (Bool → Bool) (keeps_rules_at w) (arm_keeps_rules_at w)
