-- What the reader of calls computes, on lists.
use Rattle.std.specs.Prelude.{ℕ, zero, suc, Bool, true, false, List, [], ◌∷◌, Option, Some, None}
use Rattle.c_tree.specs.declared.token.Token.{Token}
use Rattle.c_tree.specs.declared.token.Kind.{Kind}
use Rattle.c_tree.specs.declared.token.Kind.TheVariants as kind
use Rattle.c_tree.specs.declared.token.Word.{Word}
use Rattle.c_tree.specs.declared.token.Word.TheVariants as word
use Rattle.c_tree.specs.declared.tree.Name.{Name}
use Rattle.c_tree.specs.declared.tree.Expr.{Expr}
use Rattle.c_tree.specs.declared.tree.Callee.{Callee}
use Rattle.c_tree.specs.declared.tree.Callee.TheVariants as callee'
use Rattle.c_tree.specs.declared.tree.Given.{Given}
use Rattle.c_tree.specs.declared.tree.Given.TheVariants as given'
use Rattle.c_tree.specs.declared.tree.Stmt.{Stmt}
use Rattle.c_tree.specs.declared.tree.Stmt.TheVariants as stmt
use Rattle.c_reader.specs.declared.calls.Called.{Called}
use Rattle.c_reader.specs.declared.calls.Called.TheVariants as called'
use Rattle.c_reader.specs.Reading.{got, Read, Reader, ◌>>=◌, after, name, value}
use Rattle.c_reader.specs.Listing.{listing}

-- values with commas between them
abbrev pub values : ℕ → Reader (List Expr)
values d = listing (value d)

-- of less than the depth
abbrev pub values_below : ℕ → Reader (List Expr)
values_below zero ts = None
values_below (suc d) ts = values d ts

abbrev pub arguments_of : ℕ → List Token → Option (List Token) → Read (List Expr)
arguments_of d ts (Some us) = Some (got [] us)
arguments_of d ts None = values_below d ts >>= (λ v. after word.RParen v.rest >>= (λ us. Some (got v.value us)))

-- the values of a call, up to the bracket that closes them
abbrev pub arguments : ℕ → Reader (List Expr)
arguments d ts = arguments_of d ts (after word.RParen ts)

abbrev pub callee_of : List Token → Option (List Token) → Read Callee
callee_of ts (Some us) = Some (got callee'.Main us)
callee_of ts None = name ts >>= (λ n. Some (got (callee'.Name n.value) n.rest))

abbrev pub callee : Reader Callee
callee ts = callee_of ts (after word.Main ts)

abbrev pub call_of : ℕ → List Token → Option (List Token) → Read Called
call_of d ts (Some us) = after word.LParen us >>= (λ vs. after word.RParen vs >>= (λ ws. Some (got called'.Input ws)))
call_of d ts None = callee ts >>= (λ f. after word.LParen f.rest >>= (λ us. arguments d us >>= (λ v. Some (got (called'.Answer f.value v.value) v.rest))))

abbrev pub call : ℕ → Reader Called
call d ts = call_of d ts (after word.Getchar ts)

abbrev pub is_there : Option (List Token) → Bool
is_there None = false
is_there (Some ts) = true

abbrev pub word_calls : Word → Bool
word_calls word.Main = true
word_calls word.Getchar = true
word_calls _ = false

abbrev pub kind_calls : Kind → List Token → Bool
kind_calls (kind.Name x) ts = is_there (after word.LParen ts)
kind_calls (kind.Word w) ts = word_calls w
kind_calls _ ts = false

-- a call stands in front, if anything fits there
abbrev pub is_call : List Token → Bool
is_call [] = false
is_call (t ∷ ts) = kind_calls t.kind ts

abbrev pub given_by : Called → Given
given_by (called'.Answer f xs) = given'.Call f xs
given_by called'.Input = given'.Input

-- the statement of a call in a line
abbrev pub stmt_by : ℕ → Option Name → Called → Stmt
stmt_by l n (called'.Answer f xs) = stmt.Call l n f xs
stmt_by l n called'.Input = stmt.Input l n

abbrev pub given_of : ℕ → List Token → Bool → Read Given
given_of d ts true = call d ts >>= (λ c. Some (got (given_by c.value) c.rest))
given_of d ts false = value d ts >>= (λ x. Some (got (given'.Value x.value) x.rest))

-- a value or a call
abbrev pub given : ℕ → Reader Given
given d ts = given_of d ts (is_call ts)
