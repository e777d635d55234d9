-- Statements have tokens.
use Rattle.std.proofs.Common.{◌+◌, ◌<◌, ◌≤◌, List, ◌∷◌, length, Option, Some, None, arith}
use Rattle.c_tree.specs.declared.token.Token.{Token}
use Rattle.c_tree.specs.declared.token.Word.TheVariants as word
use Rattle.c_tree.specs.Scan.{Spot}
use Rattle.c_tree.specs.Expressions.{Form, the}
use Rattle.c_tree.specs.Expressions as expr'
use Rattle.c_tree.specs.Listed.{Listed}
use Rattle.c_tree.specs.Listed as list
use Rattle.c_tree.specs.Statements.{PlaceForm, Named, Index, At, place_tokens, SetForm, set_tokens, InitForm, Nothing, Sets, Declares, init_tokens, test_tokens, update_tokens, HeadForm, head_tokens, more_tokens, SingleForm, Empty, Set, SetAnswer, Call, Put, Print, Return, Break, Continue, Checkpoint, Exclude, single_tokens, local_tokens, StmtForm, Single, Block, If, IfElse, While, Do, For, StmtForms, End, Then, Chain, First, Further, condition, tokens, tokens_all, tokens_chain}
use Rattle.c_tree.specs.Statements as form
use Rattle.c_reader.proofs.Takes.{form_grows}
use Rattle.c_reader.proofs.Listings.{all_grow}
use Rattle.c_reader.proofs.LocalForms.{call_grows, given_grows, local_grows}

place_grows : (f : PlaceForm) (ts : List Token) → length ts < length (place_tokens f ts)
place_grows (Named s x) ts = omega arith
place_grows (Index s x o f c) ts = omega (arith, form_grows f (the c word.RBracket ∷ ts))
place_grows (At s f) ts = omega (arith, form_grows f ts)

set_grows : (f : SetForm) (ts : List Token) → length ts < length (set_tokens f ts)
set_grows f ts = omega (arith, form_grows f.value ts, place_grows f.place (the f.equals word.Assign ∷ expr'.tokens f.value ts))

init_grows : (f : InitForm) (ts : List Token) → length ts ≤ length (init_tokens f ts)
init_grows Nothing ts = omega arith
init_grows (Sets f) ts = omega (arith, set_grows f ts)
init_grows (Declares s n x e f) ts = omega (arith, form_grows f ts)

test_grows : (f : Option Form) (ts : List Token) → length ts ≤ length (test_tokens f ts)
test_grows None ts = omega arith
test_grows (Some f) ts = omega (arith, form_grows f ts)

update_grows : (f : Option SetForm) (ts : List Token) → length ts ≤ length (update_tokens f ts)
update_grows None ts = omega arith
update_grows (Some f) ts = omega (arith, set_grows f ts)

head_grows : (f : HeadForm) (ts : List Token) → length ts < length (head_tokens f ts)
head_grows f ts =
    let a = update_grows f.update (the f.closes word.RParen ∷ ts) in
    let b = test_grows f.test (the f.second word.Semi ∷ update_tokens f.update (the f.closes word.RParen ∷ ts)) in
    let c = init_grows f.init (the f.first word.Semi ∷ test_tokens f.test (the f.second word.Semi ∷ update_tokens f.update (the f.closes word.RParen ∷ ts))) in
    omega (arith, a, b, c)

more_grows : (v : Option (Spot × Listed Form)) (ts : List Token) → length ts ≤ length (more_tokens v ts)
more_grows None ts = omega arith
more_grows (Some v) ts = omega (arith, all_grow expr'.tokens form_grows v.1 ts)

single_grows : (f : SingleForm) (ts : List Token) → length ts ≤ length (single_tokens f ts)
single_grows Empty ts = omega arith
single_grows (Set f) ts = omega (arith, set_grows f ts)
single_grows (SetAnswer s x e f) ts = omega (arith, call_grows f ts)
single_grows (Call f) ts = omega (arith, call_grows f ts)
single_grows (Put s o f c) ts = omega (arith, form_grows f (the c word.RParen ∷ ts))
single_grows (Print s o f c) ts = omega (arith, more_grows f.values (the c word.RParen ∷ ts))
single_grows (Return s f) ts = omega (arith, given_grows f ts)
single_grows (Break s) ts = omega arith
single_grows (Continue s) ts = omega arith
single_grows (Checkpoint s) ts = omega arith
single_grows (Exclude s) ts = omega arith

-- a condition in brackets before more tokens
pub condition_grows : (o : Spot) (f : Form) (c : Spot) (ts : List Token) → length ts + 2 < length (condition o f c ts)
condition_grows o f c ts = omega (arith, form_grows f (the c word.RParen ∷ ts))

pub declares_grow : (ds : Listed form.LocalForm) (e : Spot) (ts : List Token) → length ts + 1 < length (list.tokens local_tokens ds (the e word.Semi ∷ ts))
declares_grow ds e ts = omega (arith, all_grow local_tokens local_grows ds (the e word.Semi ∷ ts))

mutual
  pub stmt_grows : (s : StmtForm) (ts : List Token) → length ts < length (tokens s ts)
  stmt_grows (Single f e) ts = omega (arith, single_grows f (the e word.Semi ∷ ts))
  stmt_grows (Block o fs c) ts = omega (arith, stmts_grow fs (the c word.RBrace ∷ ts))
  stmt_grows (If c) ts = chain_grows c ts
  stmt_grows (IfElse c e s) ts = omega (arith, chain_grows c (the e word.Else ∷ tokens s ts), stmt_grows s ts)
  stmt_grows (While w o f c s) ts = omega (arith, stmt_grows s ts, condition_grows o f c (tokens s ts))
  stmt_grows (Do d s w o f c e) ts = omega (arith, stmt_grows s (the w word.While ∷ condition o f c (the e word.Semi ∷ ts)), condition_grows o f c (the e word.Semi ∷ ts))
  stmt_grows (For l h s) ts = omega (arith, stmt_grows s ts, head_grows h (tokens s ts))

  pub stmts_grow : (fs : StmtForms) (ts : List Token) → length ts ≤ length (tokens_all fs ts)
  stmts_grow End ts = omega arith
  stmts_grow (Then s fs) ts = omega (arith, stmt_grows s (tokens_all fs ts), stmts_grow fs ts)
  stmts_grow (form.Declares l ds e fs) ts = omega (arith, stmts_grow fs ts, declares_grow ds e (tokens_all fs ts))

  pub chain_grows : (c : Chain) (ts : List Token) → length ts < length (tokens_chain c ts)
  chain_grows (First i o f c s) ts = omega (arith, stmt_grows s ts, condition_grows o f c (tokens s ts))
  chain_grows (Further a e i o f c s) ts = omega (arith, chain_grows a (the e word.Else ∷ the i word.If ∷ condition o f c (tokens s ts)), stmt_grows s ts, condition_grows o f c (tokens s ts))
