-- What the reader of statements computes, on lists.
use Rattle.std.specs.Prelude.{ℕ, zero, suc, Bool, true, false, List, [], ◌∷◌, ◌++◌, length, Option, Some, None}
use Rattle.c_tree.specs.declared.token.Token.{Token}
use Rattle.c_tree.specs.declared.token.Kind.{Kind}
use Rattle.c_tree.specs.declared.token.Kind.TheVariants as kind
use Rattle.c_tree.specs.declared.token.Word.{Word}
use Rattle.c_tree.specs.declared.token.Word.TheVariants as word
use Rattle.c_tree.specs.declared.tree.Name.{Name}
use Rattle.c_tree.specs.declared.tree.Expr.{Expr}
use Rattle.c_tree.specs.declared.tree.Place.{Place}
use Rattle.c_tree.specs.declared.tree.Place.TheVariants as place'
use Rattle.c_tree.specs.declared.tree.Assign.{Assign}
use Rattle.c_tree.specs.declared.tree.Given.{Given}
use Rattle.c_tree.specs.declared.tree.Given.TheVariants as given'
use Rattle.c_tree.specs.declared.tree.LocalDecl.{LocalDecl}
use Rattle.c_tree.specs.declared.tree.Init.{Init}
use Rattle.c_tree.specs.declared.tree.Init.TheVariants as init'
use Rattle.c_tree.specs.declared.tree.PrintPiece.{PrintPiece}
use Rattle.c_tree.specs.declared.tree.Arm.{Arm, roll-Arm}
use Rattle.c_tree.specs.declared.tree.Stmt.{Stmt}
use Rattle.c_tree.specs.declared.tree.Stmt.TheVariants as stmt
use Rattle.c_tree.specs.Statements.{first_line}
use Rattle.c_reader.specs.declared.assignments.Head.{Head}
use Rattle.c_reader.specs.declared.singles.Start.{Start}
use Rattle.c_reader.specs.declared.singles.Start.TheVariants as start'
use Rattle.c_reader.specs.Reading.{Got, got, Read, Reader, ◌>>=◌, after, tail, front, name, below, index, value}
use Rattle.c_reader.specs.Listing.{listing}
use Rattle.c_reader.specs.ReadingCalls.{values_below, call, is_call, is_there, stmt_by, given}

-- ---- assignments

abbrev pub place_named : ℕ → Name → List Token → Option (List Token) → Read Place
place_named d n ts None = Some (got (place'.Name n) ts)
place_named d n ts (Some us) = index (below d) ts >>= (λ x. Some (got (place'.Index n x.value) x.rest))

abbrev pub place_of : ℕ → List Token → Option (List Token) → Read Place
place_of d ts (Some us) = below d 11 (tail ts) >>= (λ x. Some (got (place'.At x.value) x.rest))
place_of d ts None = name ts >>= (λ n. place_named d n.value n.rest (after word.LBracket n.rest))

-- what is assigned to
abbrev pub place : ℕ → Reader Place
place d ts = place_of d ts (after word.Star ts)

abbrev pub assign_of : Place → Expr → Assign
assign_of p x = record { place = p; value = x }

abbrev pub set_value : ℕ → Place → Reader Assign
set_value d p ts = value d ts >>= (λ x. Some (got (assign_of p x.value) x.rest))

abbrev pub set : ℕ → Reader Assign
set d ts = place d ts >>= (λ p. after word.Assign p.rest >>= set_value d p.value)

-- an expression in brackets
abbrev pub condition : ℕ → Reader Expr
condition d ts = after word.LParen ts >>= (λ us. value d us >>= (λ x. after word.RParen x.rest >>= (λ vs. Some (got x.value vs))))

-- ---- the head of a `for`

abbrev pub declared : ℕ → List Token → Read (Option Init)
declared d ts = name ts >>= (λ n. after word.Assign n.rest >>= (λ us. value d us >>= (λ x. Some (got (Some (init'.Declare n.value x.value)) x.rest))))

abbrev pub init_some : ℕ → List Token → Option (List Token) → Read (Option Init)
init_some d ts (Some us) = declared d us
init_some d ts None = set d ts >>= (λ a. Some (got (Some (init'.Assign a.value)) a.rest))

abbrev pub init_of : ℕ → List Token → Bool → Read (Option Init)
init_of d ts true = Some (got None ts)
init_of d ts false = init_some d ts (after word.Long ts)

abbrev pub init : ℕ → Reader (Option Init)
init d ts = init_of d ts (is_there (after word.Semi ts))

abbrev pub test_of : ℕ → List Token → Bool → Read (Option Expr)
test_of d ts true = Some (got None ts)
test_of d ts false = value d ts >>= (λ x. Some (got (Some x.value) x.rest))

abbrev pub test : ℕ → Reader (Option Expr)
test d ts = test_of d ts (is_there (after word.Semi ts))

abbrev pub update_of : ℕ → List Token → Bool → Read (Option Assign)
update_of d ts true = Some (got None ts)
update_of d ts false = set d ts >>= (λ a. Some (got (Some a.value) a.rest))

abbrev pub update : ℕ → Reader (Option Assign)
update d ts = update_of d ts (is_there (after word.RParen ts))

abbrev pub head_of : Option Init → Option Expr → Option Assign → Head
head_of i t u = record { init = i; test = t; update = u }

-- the condition between the semicolons
abbrev pub test_part : ℕ → Reader (Option Expr)
test_part d ts = after word.Semi ts >>= (λ us. test d us >>= (λ t. after word.Semi t.rest >>= (λ vs. Some (got t.value vs))))

-- what is done before the next turn, up to the bracket that closes the head
abbrev pub update_part : ℕ → Reader (Option Assign)
update_part d ts = update d ts >>= (λ u. after word.RParen u.rest >>= (λ vs. Some (got u.value vs)))

abbrev pub head : ℕ → Reader Head
head d ts = after word.LParen ts >>= (λ us. init d us >>= (λ i. test_part d i.rest >>= (λ t. update_part d t.rest >>= (λ u. Some (got (head_of i.value t.value u.value) u.rest)))))

-- ---- declarations

abbrev pub local_decl : Bool → Name → Option Given → LocalDecl
local_decl p n g = record { is_pointer = p; name = n; given = g }

abbrev pub local_given : ℕ → Bool → Name → List Token → Option (List Token) → Read LocalDecl
local_given d p n ts None = Some (got (local_decl p n None) ts)
local_given d p n ts (Some us) = given d us >>= (λ g. Some (got (local_decl p n (Some g.value)) g.rest))

abbrev pub local_named : ℕ → Bool → Reader LocalDecl
local_named d p ts = name ts >>= (λ n. local_given d p n.value n.rest (after word.Assign n.rest))

abbrev pub local_of : ℕ → List Token → Option (List Token) → Read LocalDecl
local_of d ts None = local_named d false ts
local_of d ts (Some us) = local_named d true us

-- a declared name
abbrev pub local : ℕ → Reader LocalDecl
local d ts = local_of d ts (after word.Star ts)

-- the declared names after `long`, up to the semicolon
abbrev pub declaration : ℕ → ℕ → Reader Stmt
declaration d l ts = listing (local d) ts >>= (λ ds. after word.Semi ds.rest >>= (λ us. Some (got (stmt.Declare l ds.value) us)))

abbrev pub declaration_below : ℕ → ℕ → Reader Stmt
declaration_below zero l ts = None
declaration_below (suc d) l ts = declaration d l ts

-- ---- single statements, up to their semicolon

abbrev pub format_of : Kind → Reader (List PrintPiece)
format_of (kind.Format ps) ts = Some (got ps ts)
format_of _ ts = None

-- the string in front
abbrev pub format : Reader (List PrintPiece)
format [] = None
format (t ∷ ts) = format_of t.kind ts

abbrev pub printed : ℕ → List Token → Option (List Token) → Read (List Expr)
printed d ts None = after word.RParen ts >>= (λ us. Some (got [] us))
printed d ts (Some us) = values_below d us >>= (λ v. after word.RParen v.rest >>= (λ vs. Some (got v.value vs)))

abbrev pub print : ℕ → ℕ → Reader Stmt
print d l ts = after word.LParen ts >>= (λ us. format us >>= (λ f. printed d f.rest (after word.Comma f.rest) >>= (λ v. Some (got (stmt.Print l f.value v.value) v.rest))))

-- what a name is assigned
abbrev pub given_stmt : ℕ → Name → Given → Stmt
given_stmt l n (given'.Value x) = stmt.Set l (assign_of (place'.Name n) x)
given_stmt l n (given'.Call f xs) = stmt.Call l (Some n) f xs
given_stmt l n given'.Input = stmt.Input l (Some n)

abbrev pub assigned_value : ℕ → ℕ → Place → Reader Stmt
assigned_value d l p ts = set_value d p ts >>= (λ a. Some (got (stmt.Set l a.value) a.rest))

-- a name may be assigned a call's answer, any other place a value
abbrev pub assigned : ℕ → ℕ → Place → Reader Stmt
assigned d l (place'.Name n) ts = given d ts >>= (λ g. Some (got (given_stmt l n g.value) g.rest))
assigned d l p ts = assigned_value d l p ts

abbrev pub simple_of : ℕ → ℕ → List Token → Bool → Read Stmt
simple_of d l ts true = call d ts >>= (λ c. Some (got (stmt_by l None c.value) c.rest))
simple_of d l ts false = place d ts >>= (λ p. after word.Assign p.rest >>= assigned d l p.value)

-- a call or an assignment
abbrev pub simple : ℕ → ℕ → Reader Stmt
simple d l ts = simple_of d l ts (is_call ts)

-- how a word begins a statement
abbrev pub start_of : Word → Start
start_of word.Semi = start'.Empty
start_of word.Putchar = start'.Put
start_of word.Printf = start'.Print
start_of word.Return = start'.Return
start_of word.Break = start'.Break
start_of word.Continue = start'.Continue
start_of word.Checkpoint = start'.Checkpoint
start_of word.Exclude = start'.Exclude
start_of word.LBrace = start'.Block
start_of word.If = start'.If
start_of word.While = start'.While
start_of word.Do = start'.Do
start_of word.For = start'.For
start_of _ = start'.Simple

abbrev pub start_at : Option Word → Start
start_at None = start'.Simple
start_at (Some w) = start_of w

-- how the token in front begins a statement
abbrev pub start : List Token → Start
start ts = start_at (front ts)

abbrev pub only_in_loop : Bool → List Token → Option (List Token)
only_in_loop true ts = Some ts
only_in_loop false ts = None

-- a single statement that begins so in a line
abbrev pub single : ℕ → (in_loop : Bool) → ℕ → Start → Reader Stmt
single d in_loop l start'.Empty ts = Some (got (stmt.Empty l) ts)
single d in_loop l start'.Put ts = condition d (tail ts) >>= (λ x. Some (got (stmt.Put l x.value) x.rest))
single d in_loop l start'.Print ts = print d l (tail ts)
single d in_loop l start'.Return ts = given d (tail ts) >>= (λ g. Some (got (stmt.Return l g.value) g.rest))
single d in_loop l start'.Break ts = only_in_loop in_loop (tail ts) >>= (λ us. Some (got (stmt.Break l) us))
single d in_loop l start'.Continue ts = only_in_loop in_loop (tail ts) >>= (λ us. Some (got (stmt.Continue l) us))
single d in_loop l start'.Checkpoint ts = Some (got (stmt.Checkpoint l) (tail ts))
single d in_loop l start'.Exclude ts = Some (got (stmt.Exclude l) (tail ts))
single d in_loop l start'.Simple ts = simple d l ts
single d in_loop l _ ts = None

-- with its semicolon
abbrev pub ended : ℕ → (in_loop : Bool) → ℕ → Start → Reader Stmt
ended d in_loop l st ts = single d in_loop l st ts >>= (λ s. after word.Semi s.rest >>= (λ us. Some (got s.value us)))

-- ---- statements

abbrev pub arm_of : Expr → Stmt → Arm
arm_of x s = roll-Arm (record { test = x; body = s })

-- of statements one level deeper, in a loop or not
abbrev pub Deeper : Type 0
Deeper = Bool → Reader Stmt

abbrev pub entry_of : ℕ → Deeper → Bool → List Token → Option (List Token) → Read Stmt
entry_of d deeper in_loop ts None = deeper in_loop ts
entry_of d deeper in_loop ts (Some us) = declaration_below d (first_line ts) us

-- a declaration or a statement of a block
abbrev pub entry : ℕ → Deeper → Bool → Reader Stmt
entry d deeper in_loop ts = entry_of d deeper in_loop ts (after word.Long ts)

abbrev pub block_turn : ℕ → Deeper → Bool → (List Stmt → Reader (List Stmt)) → List Stmt → List Token → Option (List Token) → Read (List Stmt)
block_turn d deeper in_loop go xs ts (Some us) = Some (got xs us)
block_turn d deeper in_loop go xs ts None = entry d deeper in_loop ts >>= (λ s. go (xs ++ s.value ∷ []) s.rest)

-- after the statements xs, what stands up to the brace that closes the block, in at most n turns
abbrev pub block : ℕ → Deeper → Bool → ℕ → List Stmt → Reader (List Stmt)
block d deeper in_loop zero xs ts = block_turn d deeper in_loop (λ _ _. None) xs ts (after word.RBrace ts)
block d deeper in_loop (suc n) xs ts = block_turn d deeper in_loop (block d deeper in_loop n) xs ts (after word.RBrace ts)

-- a condition and a statement
abbrev pub arm : ℕ → Deeper → Bool → Reader Arm
arm d deeper in_loop ts = condition d ts >>= (λ x. deeper in_loop x.rest >>= (λ s. Some (got (arm_of x.value s.value) s.rest)))

abbrev pub last_arm : Deeper → Bool → ℕ → (List Arm → Reader Stmt) → List Arm → List Token → Option (List Token) → Read Stmt
last_arm deeper in_loop l go xs ts (Some us) = go xs us
last_arm deeper in_loop l go xs ts None = deeper in_loop ts >>= (λ s. Some (got (stmt.If l xs (Some s.value)) s.rest))

-- behind an arm: further arms, a last statement, or the end
abbrev pub chain_on : Deeper → Bool → ℕ → (List Arm → Reader Stmt) → List Arm → List Token → Option (List Token) → Read Stmt
chain_on deeper in_loop l go xs ts None = Some (got (stmt.If l xs None) ts)
chain_on deeper in_loop l go xs ts (Some us) = last_arm deeper in_loop l go xs us (after word.If us)

-- after the arms xs and an `if`, in at most n turns
abbrev pub chain : ℕ → Deeper → Bool → ℕ → ℕ → List Arm → Reader Stmt
chain d deeper in_loop l zero xs ts = None
chain d deeper in_loop l (suc n) xs ts = arm d deeper in_loop ts >>= (λ a. chain_on deeper in_loop l (chain d deeper in_loop l n) (xs ++ a.value ∷ []) a.rest (after word.Else a.rest))

abbrev pub while_loop : ℕ → Deeper → ℕ → Reader Stmt
while_loop d deeper l ts = condition d ts >>= (λ x. deeper true x.rest >>= (λ s. Some (got (stmt.While l x.value s.value) s.rest)))

abbrev pub do_test : ℕ → ℕ → Got Stmt → Read Stmt
do_test d l s = after word.While s.rest >>= (λ us. condition d us >>= (λ x. after word.Semi x.rest >>= (λ vs. Some (got (stmt.Do l s.value x.value) vs))))

abbrev pub do_loop : ℕ → Deeper → ℕ → Reader Stmt
do_loop d deeper l ts = deeper true ts >>= do_test d l

abbrev pub for_loop : ℕ → Deeper → ℕ → Reader Stmt
for_loop d deeper l ts = head d ts >>= (λ h. deeper true h.rest >>= (λ s. Some (got (stmt.For l h.value.init h.value.test h.value.update s.value) s.rest)))

abbrev pub statement_of : ℕ → Deeper → Bool → ℕ → Start → Reader Stmt
statement_of d deeper in_loop l start'.Block ts = block d deeper in_loop (length (tail ts)) [] (tail ts) >>= (λ b. Some (got (stmt.Block l b.value) b.rest))
statement_of d deeper in_loop l start'.If ts = chain d deeper in_loop l (length (tail ts)) [] (tail ts)
statement_of d deeper in_loop l start'.While ts = while_loop d deeper l (tail ts)
statement_of d deeper in_loop l start'.Do ts = do_loop d deeper l (tail ts)
statement_of d deeper in_loop l start'.For ts = for_loop d deeper l (tail ts)
statement_of d deeper in_loop l st ts = ended d in_loop l st ts

-- such a statement holds another
abbrev pub holds_other : Start → Bool
holds_other start'.If = true
holds_other start'.While = true
holds_other start'.Do = true
holds_other start'.For = true
holds_other _ = false

abbrev pub statement : ℕ → Deeper → Deeper
statement d deeper in_loop ts = statement_of d deeper in_loop (first_line ts) (start ts) ts

-- a statement within the depth
unfoldable pub stmt_within : ℕ → Deeper
stmt_within zero = λ in_loop ts. None
stmt_within (suc d) = statement d (stmt_within d)
