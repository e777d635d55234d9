-- Which tokens spell what stands at file scope (C99, 6.7 and 6.9).
use Rattle.std.specs.Prelude.{ℕ, ℤ, Bool, List, [], ◌∷◌, Option, Some, None}
use Rattle.c_tree.specs.declared.token.Token.{Token}
use Rattle.c_tree.specs.declared.token.Kind.TheVariants as kind
use Rattle.c_tree.specs.declared.token.Word.TheVariants as word
use Rattle.c_tree.specs.declared.tree.Length.{Length}
use Rattle.c_tree.specs.declared.tree.Length.TheVariants as length'
use Rattle.c_tree.specs.declared.tree.ObjectForm.{ObjectForm}
use Rattle.c_tree.specs.declared.tree.ObjectForm.TheVariants as object'
use Rattle.c_tree.specs.declared.tree.ObjectDecl.{ObjectDecl}
use Rattle.c_tree.specs.declared.tree.Parameter.{Parameter}
use Rattle.c_tree.specs.Scan.{Spot, at}
use Rattle.c_tree.specs.Expressions.{the, a_name, name_at}
use Rattle.c_tree.specs.Listed.{Listed}
use Rattle.c_tree.specs.Listed as list
use Rattle.c_tree.specs.Statements.{star_tokens, is_pointer}

-- ---- objects

-- a number, or the name of a constant
pub data LengthForm : Type 0 where
  Num : Spot → ℤ → LengthForm
  Named : Spot → List ℕ → LengthForm

abbrev pub length_token : LengthForm → Token
length_token (Num s n) = at s (kind.Num n)
length_token (Named s x) = a_name s x

abbrev pub length_tree : LengthForm → Length
length_tree (Num s n) = length'.Num n
length_tree (Named s x) = length'.Name (name_at s x)

-- what stands behind a declared name: nothing, a first number with a minus or without, or a length in brackets
pub data BehindForm : Type 0 where
  Nothing : BehindForm
  Starts : (equals : Spot) → (minus : Option Spot) → LengthForm → BehindForm
  Array : (opens : Spot) → LengthForm → (closes : Spot) → BehindForm

abbrev pub minus_tokens : Option Spot → List Token → List Token
minus_tokens None ts = ts
minus_tokens (Some s) ts = the s word.Minus ∷ ts

abbrev pub behind_tokens : BehindForm → List Token → List Token
behind_tokens Nothing ts = ts
behind_tokens (Starts e m f) ts = the e word.Assign ∷ minus_tokens m (length_token f ∷ ts)
behind_tokens (Array o f c) ts = the o word.LBracket ∷ length_token f ∷ the c word.RBracket ∷ ts

abbrev pub behind_tree : BehindForm → ObjectForm
behind_tree Nothing = object'.Number
behind_tree (Starts e m f) = object'.Started (is_pointer m) (length_tree f)
behind_tree (Array o f c) = object'.Array (length_tree f)

-- a spelling of a declared name of the file
pub data DeclForm : Type 0 where
  Plain : Spot → List ℕ → BehindForm → DeclForm
  Pointer : (star : Spot) → Spot → List ℕ → DeclForm

abbrev pub decl_tokens : DeclForm → List Token → List Token
decl_tokens (Plain s x f) ts = a_name s x ∷ behind_tokens f ts
decl_tokens (Pointer p s x) ts = the p word.Star ∷ a_name s x ∷ ts

abbrev pub decl_tree : DeclForm → ObjectDecl
decl_tree (Plain s x f) = record { name = name_at s x; form = behind_tree f }
decl_tree (Pointer p s x) = record { name = name_at s x; form = object'.Pointer }

-- ---- functions

-- a parameter, of a prototype perhaps without a name
pub record ParameterForm : Type 0 where
  pub long : Spot
  pub star : Option Spot
  pub named : Option (Spot × List ℕ)

abbrev pub parameter_name : Option (Spot × List ℕ) → List Token → List Token
parameter_name None ts = ts
parameter_name (Some n) ts = a_name n.0 n.1 ∷ ts

abbrev pub parameter_tokens : ParameterForm → List Token → List Token
parameter_tokens f ts = the f.long word.Long ∷ star_tokens f.star (parameter_name f.named ts)

-- what stands between the brackets of a head: nothing, `void`, or parameters
pub data HeadForm : Type 0 where
  Nothing : HeadForm
  Void : Spot → HeadForm
  Parameters : Listed ParameterForm → HeadForm

abbrev pub head_tokens : HeadForm → List Token → List Token
head_tokens Nothing ts = ts
head_tokens (Void s) ts = the s word.Void ∷ ts
head_tokens (Parameters fs) ts = list.tokens parameter_tokens fs ts

abbrev pub named_tree : Bool → Option (Spot × List ℕ) → Option Parameter
named_tree p None = None
named_tree p (Some n) = Some (record { is_pointer = p; name = name_at n.0 n.1 })

-- the parameter of a function, which has a name
abbrev pub parameter_tree : ParameterForm → Option Parameter
parameter_tree f = named_tree (is_pointer f.star) f.named

abbrev pub head_trees : HeadForm → List (Option Parameter)
head_trees Nothing = []
head_trees (Void s) = []
head_trees (Parameters fs) = list.trees parameter_tree fs

-- the parameters, where all have names
abbrev pub with_next : Option Parameter → Option (List Parameter) → Option (List Parameter)
with_next (Some p) (Some ps) = Some (p ∷ ps)
with_next _ _ = None

abbrev pub all_named : List (Option Parameter) → Option (List Parameter)
all_named [] = Some []
all_named (p ∷ ps) = with_next p (all_named ps)
