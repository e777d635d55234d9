-- What is spelled is read: statements.
use Rattle.std.proofs.Common.{◌≡◌, ℕ, zero, suc, ◌≤◌, List, [], ◌∷◌, ◌++◌, length, Some, None, refl, sym, ap, ◌∙◌, subst, arith, append_assoc, append-nil, true, false, Bool}
use Rattle.c_tree.specs.declared.token.Token.{Token}
use Rattle.c_tree.specs.declared.token.Word.TheVariants as word
use Rattle.c_tree.specs.declared.tree.Arm.{Arm}
use Rattle.c_tree.specs.declared.tree.Stmt.{Stmt}
use Rattle.c_tree.specs.declared.tree.Stmt.TheVariants as stmt'
use Rattle.c_tree.specs.Scan.{Spot}
use Rattle.c_tree.specs.Expressions.{Form, the, a_name, name_at}
use Rattle.c_tree.specs.Expressions as expr'
use Rattle.c_tree.specs.Listed.{Listed}
use Rattle.c_tree.specs.Listed as list
use Rattle.c_tree.specs.Calls.{CallForm, Calls, Input, Main, call_tokens}
use Rattle.c_tree.specs.Calls as spelt
use Rattle.c_tree.specs.Statements.{PlaceForm, Named, Index, At, place_tokens, SetForm, LocalForm, local_tokens, local_tree, IsWellLocal, local_depth, HeadForm, init_tree, test_tree, update_tree, head_tokens, IsWellHead, head_depth, SingleForm, Empty, Set, SetAnswer, Call, Put, Print, Return, Break, Continue, Checkpoint, Exclude, single_tokens, single_tree, IsWellSingle, single_depth, StmtForm, Single, Block, If, IfElse, While, Do, For, StmtForms, End, Then, Declares, Chain, First, Further, tokens, tokens_all, tokens_chain, first_line, chain_line, arm, tree, trees, arms, depth, depth_all, depth_chain, open_end, is_if, last_open, IsWell, AreWell, IsWellChain}
use Rattle.c_tree.specs.Statements as form
use Rattle.c_reader.specs.declared.singles.Start.{Start}
use Rattle.c_reader.specs.declared.singles.Start.TheVariants as start'
use Rattle.c_reader.specs.Reading.{got, ◌>>=◌, after}
use Rattle.c_reader.specs.ReadingStatements as r
use Rattle.c_reader.proofs.Assigning.{condition_read, head_read}
use Rattle.c_reader.proofs.LocalForms.{declaration_below_read}
use Rattle.c_reader.proofs.SingleForms.{ended_read, is_single, single_start, single_line}
use Rattle.c_reader.proofs.StatementsGrow.{condition_grows, declares_grow, stmt_grows}

-- what stands in front of no statement
pub record Fronts (ts : List Token) : Type 0 where
  pub no_brace : after word.RBrace ts ≡ None
  pub no_long : after word.Long ts ≡ None
  pub no_else : after word.Else ts ≡ None

-- the same, and no `if`
record Plain (ts : List Token) : Type 0 where
  fronts : Fronts ts
  no_if : after word.If ts ≡ None

place_plain : (f : PlaceForm) (ts : List Token) → Plain (place_tokens f ts)
place_plain (Named s x) ts = record { fronts = record { no_brace = refl; no_long = refl; no_else = refl }; no_if = refl }
place_plain (Index s x o f c) ts = record { fronts = record { no_brace = refl; no_long = refl; no_else = refl }; no_if = refl }
place_plain (At s f) ts = record { fronts = record { no_brace = refl; no_long = refl; no_else = refl }; no_if = refl }

call_plain : (f : CallForm) (ts : List Token) → Plain (call_tokens f ts)
call_plain (Calls (Main s) o vs c) ts = record { fronts = record { no_brace = refl; no_long = refl; no_else = refl }; no_if = refl }
call_plain (Calls (spelt.Named s x) o vs c) ts = record { fronts = record { no_brace = refl; no_long = refl; no_else = refl }; no_if = refl }
call_plain (Input s o c) ts = record { fronts = record { no_brace = refl; no_long = refl; no_else = refl }; no_if = refl }

single_plain : (f : SingleForm) (e : Spot) (ts : List Token) → Plain (single_tokens f (the e word.Semi ∷ ts))
single_plain Empty e ts = record { fronts = record { no_brace = refl; no_long = refl; no_else = refl }; no_if = refl }
single_plain (Set f) e ts = place_plain f.place (the f.equals word.Assign ∷ expr'.tokens f.value (the e word.Semi ∷ ts))
single_plain (SetAnswer s x q f) e ts = record { fronts = record { no_brace = refl; no_long = refl; no_else = refl }; no_if = refl }
single_plain (Call f) e ts = call_plain f (the e word.Semi ∷ ts)
single_plain (Put s o f c) e ts = record { fronts = record { no_brace = refl; no_long = refl; no_else = refl }; no_if = refl }
single_plain (Print s o f c) e ts = record { fronts = record { no_brace = refl; no_long = refl; no_else = refl }; no_if = refl }
single_plain (Return s f) e ts = record { fronts = record { no_brace = refl; no_long = refl; no_else = refl }; no_if = refl }
single_plain (Break s) e ts = record { fronts = record { no_brace = refl; no_long = refl; no_else = refl }; no_if = refl }
single_plain (Continue s) e ts = record { fronts = record { no_brace = refl; no_long = refl; no_else = refl }; no_if = refl }
single_plain (Checkpoint s) e ts = record { fronts = record { no_brace = refl; no_long = refl; no_else = refl }; no_if = refl }
single_plain (Exclude s) e ts = record { fronts = record { no_brace = refl; no_long = refl; no_else = refl }; no_if = refl }

-- the first `if` of a chain, and what stands behind it
abbrev pub chain_spot : Chain → Spot
chain_spot (First i o f c s) = i
chain_spot (Further a e i o f c s) = chain_spot a

abbrev pub chain_inner : Chain → List Token → List Token
chain_inner (First i o f c s) ts = form.condition o f c (tokens s ts)
chain_inner (Further a e i o f c s) ts = chain_inner a (the e word.Else ∷ the i word.If ∷ form.condition o f c (tokens s ts))

pub chain_is : (c : Chain) (ts : List Token) → tokens_chain c ts ≡ the (chain_spot c) word.If ∷ chain_inner c ts
chain_is (First i o f c s) ts = refl
chain_is (Further a e i o f c s) ts = chain_is a (the e word.Else ∷ the i word.If ∷ form.condition o f c (tokens s ts))

pub chain_line_is : (c : Chain) → (chain_spot c).line ≡ chain_line c
chain_line_is (First i o f c s) = refl
chain_line_is (Further a e i o f c s) = chain_line_is a

chain_fronts : (c : Chain) (ts us : List Token) → tokens_chain c ts ≡ the (chain_spot c) word.If ∷ us → Fronts (tokens_chain c ts)
chain_fronts c ts us e = subst Fronts (sym e) (record { no_brace = refl; no_long = refl; no_else = refl })

pub stmt_fronts : (s : StmtForm) (ts : List Token) → Fronts (tokens s ts)
stmt_fronts (Single f e) ts = (single_plain f e ts).fronts
stmt_fronts (Block o fs c) ts = record { no_brace = refl; no_long = refl; no_else = refl }
stmt_fronts (If c) ts = chain_fronts c ts (chain_inner c ts) (chain_is c ts)
stmt_fronts (IfElse c e s) ts = chain_fronts c (the e word.Else ∷ tokens s ts) (chain_inner c (the e word.Else ∷ tokens s ts)) (chain_is c (the e word.Else ∷ tokens s ts))
stmt_fronts (While w o f c s) ts = record { no_brace = refl; no_long = refl; no_else = refl }
stmt_fronts (Do d s w o f c e) ts = record { no_brace = refl; no_long = refl; no_else = refl }
stmt_fronts (For l h s) ts = record { no_brace = refl; no_long = refl; no_else = refl }

pub not_if : (s : StmtForm) (ts : List Token) → is_if s ≡ false → after word.If (tokens s ts) ≡ None
not_if (Single f e) ts h = (single_plain f e ts).no_if
not_if (Block o fs c) ts h = refl
not_if (If c) ts h = absurd cc
not_if (IfElse c e s) ts h = absurd cc
not_if (While w o f c s) ts h = refl
not_if (Do d s w o f c e) ts h = refl
not_if (For l h s) ts i = refl

all_no_else : (fs : StmtForms) (c : Spot) (ts : List Token) → after word.Else (tokens_all fs (the c word.RBrace ∷ ts)) ≡ None
all_no_else End c ts = refl
all_no_else (Then s fs) c ts = (stmt_fronts s (tokens_all fs (the c word.RBrace ∷ ts))).no_else
all_no_else (Declares l ds e fs) c ts = refl

-- no `else` follows a statement that it would go on with
abbrev pub Follows : Bool → List Token → Type 0
Follows true ts = after word.Else ts ≡ None
Follows false ts = Unit {0}

follows : (b : Bool) (ts : List Token) → after word.Else ts ≡ None → Follows b ts
follows true ts h = h
follows false ts h = tt

pos_depth : (s : StmtForm) → 1 ≤ depth s
pos_depth (Single f e) = omega arith
pos_depth (Block o fs c) = omega arith
pos_depth (If c) = omega arith
pos_depth (IfElse c e s) = omega arith
pos_depth (While w o f c s) = omega arith
pos_depth (Do d s w o f c e) = omega arith
pos_depth (For l h s) = omega arith

pub within_is : (d : ℕ) (b : Bool) (ts : List Token) → r.stmt_within (suc d) b ts ≡ r.statement d (r.stmt_within d) b ts
unfolding r.stmt_within
within_is d b ts = refl

-- a statement is read as its tree
abbrev pub IsRead : ℕ → Bool → StmtForm → List Token → Type 0
IsRead d b s ts = r.stmt_within d b (tokens s ts) ≡ Some (got (tree s) ts)

-- ---- by cases, given that the parts are read

statement_single : (d : ℕ) (deeper : r.Deeper) (b : Bool) (l : ℕ) (st : Start) (ts : List Token) → is_single st ≡ true → r.statement_of d deeper b l st ts ≡ r.ended d b l st ts
statement_single d deeper b l start'.Block ts h = absurd cc
statement_single d deeper b l start'.If ts h = absurd cc
statement_single d deeper b l start'.While ts h = absurd cc
statement_single d deeper b l start'.Do ts h = absurd cc
statement_single d deeper b l start'.For ts h = absurd cc
statement_single d deeper b l _ ts h = refl

single_case : (d : ℕ) (b : Bool) (f : SingleForm) (e : Spot) (ts : List Token) → IsWellSingle b f → single_depth f ≤ d → r.statement d (r.stmt_within d) b (single_tokens f (the e word.Semi ∷ ts)) ≡ Some (got (tree (Single f e)) ts)
single_case d b f e ts w h =
    let x = single_tokens f (the e word.Semi ∷ ts) in
    statement_single d (r.stmt_within d) b (first_line x) (r.start x) x (single_start f e ts)
    ∙ ended_read d b (first_line x) f e ts w h
    ∙ ap (λ l. Some (got (single_tree l f) ts)) (single_line f e ts [])

block_case : (d : ℕ) (b : Bool) (o : Spot) (fs : StmtForms) (c : Spot) (ts : List Token)
    → r.block d (r.stmt_within d) b (length (tokens_all fs (the c word.RBrace ∷ ts))) [] (tokens_all fs (the c word.RBrace ∷ ts)) ≡ Some (got (trees fs) ts)
    → r.statement d (r.stmt_within d) b (tokens (Block o fs c) ts) ≡ Some (got (tree (Block o fs c)) ts)
block_case d b o fs c ts h = ap (λ q. q >>= (λ b. Some (got (stmt'.Block o.line b.value) b.rest))) h

while_case : (d : ℕ) (b : Bool) (w o : Spot) (f : Form) (c : Spot) (s : StmtForm) (ts : List Token) → expr'.IsWell f → expr'.depth f ≤ d → IsRead d true s ts → r.statement d (r.stmt_within d) b (tokens (While w o f c s) ts) ≡ Some (got (tree (While w o f c s)) ts)
while_case d b w o f c s ts wf h i =
    ap (λ q. q >>= (λ x. r.stmt_within d true x.rest >>= (λ s. Some (got (stmt'.While w.line x.value s.value) s.rest)))) (condition_read d o f c (tokens s ts) wf h)
    ∙ ap (λ q. q >>= (λ s. Some (got (stmt'.While w.line (expr'.tree f) s.value) s.rest))) i

do_case : (d : ℕ) (b : Bool) (l : Spot) (s : StmtForm) (w o : Spot) (f : Form) (c e : Spot) (ts : List Token) → expr'.IsWell f → expr'.depth f ≤ d → IsRead d true s (the w word.While ∷ form.condition o f c (the e word.Semi ∷ ts))
    → r.statement d (r.stmt_within d) b (tokens (Do l s w o f c e) ts) ≡ Some (got (tree (Do l s w o f c e)) ts)
do_case d b l s w o f c e ts wf h i =
    ap (λ q. q >>= r.do_test d l.line) i
    ∙ ap (λ q. q >>= (λ x. after word.Semi x.rest >>= (λ vs. Some (got (stmt'.Do l.line (tree s) x.value) vs)))) (condition_read d o f c (the e word.Semi ∷ ts) wf h)

for_case : (d : ℕ) (b : Bool) (l : Spot) (h : HeadForm) (s : StmtForm) (ts : List Token) → IsWellHead h → head_depth h ≤ d → IsRead d true s ts → r.statement d (r.stmt_within d) b (tokens (For l h s) ts) ≡ Some (got (tree (For l h s)) ts)
for_case d b l h s ts w le i =
    ap (λ q. q >>= (λ h. r.stmt_within d true h.rest >>= (λ s. Some (got (stmt'.For l.line h.value.init h.value.test h.value.update s.value) s.rest)))) (head_read d h (tokens s ts) w le)
    ∙ ap (λ q. q >>= (λ s. Some (got (stmt'.For l.line (init_tree h.init) (test_tree h.test) (update_tree h.update) s.value) s.rest))) i

-- ---- the arms of an `if`

arm_read : (d : ℕ) (b : Bool) (o : Spot) (f : Form) (c : Spot) (s : StmtForm) (ts : List Token) → expr'.IsWell f → expr'.depth f ≤ d → IsRead d b s ts → r.arm d (r.stmt_within d) b (form.condition o f c (tokens s ts)) ≡ Some (got (arm f (tree s)) ts)
arm_read d b o f c s ts w h i =
    ap (λ q. q >>= (λ x. r.stmt_within d b x.rest >>= (λ s. Some (got (r.arm_of x.value s.value) s.rest)))) (condition_read d o f c (tokens s ts) w h)
    ∙ ap (λ q. q >>= (λ s. Some (got (r.arm_of (expr'.tree f) s.value) s.rest))) i

-- after the arms the reader stands behind them, with turns enough
record ReadsChain (d : ℕ) (b : Bool) (l n : ℕ) (c : Chain) (ts : List Token) : Type 0 where
  turns : ℕ
  enough : length ts ≤ turns
  reads : r.chain d (r.stmt_within d) b l n [] (chain_inner c ts) ≡ r.chain_on (r.stmt_within d) b l (r.chain d (r.stmt_within d) b l turns) (arms c) ts (after word.Else ts)

arm_turn : (d : ℕ) (b : Bool) (l n : ℕ) (xs : List Arm) (o : Spot) (f : Form) (c : Spot) (s : StmtForm) (ts : List Token) → expr'.IsWell f → expr'.depth f ≤ d → IsRead d b s ts
    → r.chain d (r.stmt_within d) b l (suc n) xs (form.condition o f c (tokens s ts)) ≡ r.chain_on (r.stmt_within d) b l (r.chain d (r.stmt_within d) b l n) (xs ++ arm f (tree s) ∷ []) ts (after word.Else ts)
arm_turn d b l n xs o f c s ts w h i =
    ap (λ q. q >>= (λ a. r.chain_on (r.stmt_within d) b l (r.chain d (r.stmt_within d) b l n) (xs ++ a.value ∷ []) a.rest (after word.Else a.rest))) (arm_read d b o f c s ts w h i)

first_turn : (d : ℕ) (b : Bool) (l n : ℕ) (i o : Spot) (f : Form) (c : Spot) (s : StmtForm) (ts : List Token) → expr'.IsWell f → expr'.depth f ≤ d → IsRead d b s ts → length (form.condition o f c (tokens s ts)) ≤ n → ReadsChain d b l n (First i o f c s) ts
first_turn d b l zero i o f c s ts w h k e = absurd (omega (arith, condition_grows o f c (tokens s ts)))
first_turn d b l (suc n) i o f c s ts w h k e =
    record { turns = n; enough = omega (arith, condition_grows o f c (tokens s ts), stmt_grows s ts); reads = arm_turn d b l n [] o f c s ts w h k }

further_at : (d : ℕ) (b : Bool) (l n m : ℕ) (a : Chain) (e i o : Spot) (f : Form) (c : Spot) (s : StmtForm) (ts : List Token) → expr'.IsWell f → expr'.depth f ≤ d → IsRead d b s ts
    → length (the e word.Else ∷ the i word.If ∷ form.condition o f c (tokens s ts)) ≤ m
    → r.chain d (r.stmt_within d) b l n [] (chain_inner (Further a e i o f c s) ts) ≡ r.chain d (r.stmt_within d) b l m (arms a) (form.condition o f c (tokens s ts))
    → ReadsChain d b l n (Further a e i o f c s) ts
further_at d b l n zero a e i o f c s ts w h k g t = absurd (omega arith)
further_at d b l n (suc m) a e i o f c s ts w h k g t =
    record { turns = m; enough = omega (arith, g, condition_grows o f c (tokens s ts), stmt_grows s ts); reads = t ∙ arm_turn d b l m (arms a) o f c s ts w h k }

-- ---- blocks

block_end : (d : ℕ) (b : Bool) (n : ℕ) (xs : List Stmt) (c : Spot) (ts : List Token) → r.block d (r.stmt_within d) b n xs (the c word.RBrace ∷ ts) ≡ Some (got xs ts)
block_end d b zero xs c ts = refl
block_end d b (suc n) xs c ts = refl

block_then : (d : ℕ) (b : Bool) (n : ℕ) (xs : List Stmt) (x : Stmt) (ts us : List Token) → after word.RBrace ts ≡ None → r.entry d (r.stmt_within d) b ts ≡ Some (got x us) → r.block d (r.stmt_within d) b (suc n) xs ts ≡ r.block d (r.stmt_within d) b n (xs ++ x ∷ []) us
block_then d b n xs x ts us f h =
    ap (r.block_turn d (r.stmt_within d) b (r.block d (r.stmt_within d) b n) xs ts) f ∙ ap (λ q. q >>= (λ s. r.block d (r.stmt_within d) b n (xs ++ s.value ∷ []) s.rest)) h

got_is : {A : Type 0} (x y : A) (ts : List Token) → x ≡ y → Some (got x ts) ≡ Some (got y ts)
got_is x y ts e = ap (λ z. Some (got z ts)) e

mutual
  pub stmt_reads : (s : StmtForm) (d : ℕ) (b : Bool) (ts : List Token) → IsWell b s → depth s ≤ d → Follows (open_end s) ts → IsRead d b s ts
  stmt_reads s zero b ts w h f = absurd (omega (arith, pos_depth s))
  stmt_reads (Single f e) (suc d) b ts w h fo = within_is d b (tokens (Single f e) ts) ∙ single_case d b f e ts w (omega arith)
  stmt_reads (Block o fs c) (suc d) b ts w h fo =
      within_is d b (tokens (Block o fs c) ts)
      ∙ block_case d b o fs c ts (block_reads fs d b (length (tokens_all fs (the c word.RBrace ∷ ts))) [] c ts w (omega arith) (omega arith))
  stmt_reads (If c) (suc d) b ts w h fo =
      let l = (chain_spot c).line in
      let k = chain_reads c d b l (length (chain_inner c ts)) ts w (omega arith) (follows (last_open c) ts fo) (omega arith) in
      within_is d b (tokens_chain c ts)
      ∙ ap (r.statement d (r.stmt_within d) b) (chain_is c ts)
      ∙ k.reads
      ∙ ap (r.chain_on (r.stmt_within d) b l (r.chain d (r.stmt_within d) b l k.turns) (arms c) ts) fo
      ∙ ap (λ n. Some (got (stmt'.If n (arms c) None) ts)) (chain_line_is c)
  stmt_reads (IfElse c e s) (suc d) b ts w h fo =
      let l = (chain_spot c).line in
      let us = the e word.Else ∷ tokens s ts in
      let k = chain_reads c d b l (length (chain_inner c us)) us w.0 (omega arith) (subst (λ o. Follows o us) (sym w.1) tt) (omega arith) in
      within_is d b (tokens_chain c us)
      ∙ ap (r.statement d (r.stmt_within d) b) (chain_is c us)
      ∙ k.reads
      ∙ ap (r.last_arm (r.stmt_within d) b l (r.chain d (r.stmt_within d) b l k.turns) (arms c) (tokens s ts)) (not_if s ts w.2)
      ∙ ap (λ q. q >>= (λ s. Some (got (stmt'.If l (arms c) (Some s.value)) s.rest))) (stmt_reads s d b ts w.3 (omega arith) fo)
      ∙ ap (λ n. Some (got (stmt'.If n (arms c) (Some (tree s))) ts)) (chain_line_is c)
  stmt_reads (While w o f c s) (suc d) b ts wl h fo =
      within_is d b (tokens (While w o f c s) ts) ∙ while_case d b w o f c s ts wl.0 (omega arith) (stmt_reads s d true ts wl.1 (omega arith) fo)
  stmt_reads (Do l s w o f c e) (suc d) b ts wl h fo =
      let us = the w word.While ∷ form.condition o f c (the e word.Semi ∷ ts) in
      within_is d b (tokens (Do l s w o f c e) ts) ∙ do_case d b l s w o f c e ts wl.1 (omega arith) (stmt_reads s d true us wl.0 (omega arith) (follows (open_end s) us refl))
  stmt_reads (For l hd s) (suc d) b ts wl h fo =
      within_is d b (tokens (For l hd s) ts) ∙ for_case d b l hd s ts wl.0 (omega arith) (stmt_reads s d true ts wl.1 (omega arith) fo)

  pub block_reads : (fs : StmtForms) (d : ℕ) (b : Bool) (n : ℕ) (xs : List Stmt) (c : Spot) (ts : List Token) → AreWell b fs → depth_all fs ≤ d → length (tokens_all fs (the c word.RBrace ∷ ts)) ≤ n
      → r.block d (r.stmt_within d) b n xs (tokens_all fs (the c word.RBrace ∷ ts)) ≡ Some (got (xs ++ trees fs) ts)
  block_reads End d b n xs c ts w h e = block_end d b n xs c ts ∙ got_is xs (xs ++ []) ts (sym (append-nil xs))
  block_reads (Then s fs) d b zero xs c ts w h e = absurd (omega (arith, stmt_grows s (tokens_all fs (the c word.RBrace ∷ ts))))
  block_reads (Then s fs) d b (suc n) xs c ts w h e =
      let us = tokens_all fs (the c word.RBrace ∷ ts) in
      let fr = stmt_fronts s us in
      block_then d b n xs (tree s) (tokens s us) us fr.no_brace (ap (r.entry_of d (r.stmt_within d) b (tokens s us)) fr.no_long ∙ stmt_reads s d b us w.0 (omega arith) (follows (open_end s) us (all_no_else fs c ts)))
      ∙ block_reads fs d b n (xs ++ tree s ∷ []) c ts w.1 (omega arith) (omega (arith, e, stmt_grows s us))
      ∙ got_is ((xs ++ tree s ∷ []) ++ trees fs) (xs ++ tree s ∷ trees fs) ts (append_assoc xs (tree s ∷ []) (trees fs))
  block_reads (Declares l ds q fs) d b zero xs c ts w h e = absurd (omega arith)
  block_reads (Declares l ds q fs) d b (suc n) xs c ts w h e =
      let us = tokens_all fs (the c word.RBrace ∷ ts) in
      let x = stmt'.Declare l.line (list.trees local_tree ds) in
      block_then d b n xs x (tokens_all (Declares l ds q fs) (the c word.RBrace ∷ ts)) us refl (declaration_below_read d l.line ds q us w.0 (omega arith))
      ∙ block_reads fs d b n (xs ++ x ∷ []) c ts w.1 (omega arith) (omega (arith, e, declares_grow ds q us))
      ∙ got_is ((xs ++ x ∷ []) ++ trees fs) (xs ++ x ∷ trees fs) ts (append_assoc xs (x ∷ []) (trees fs))

  chain_reads : (c : Chain) (d : ℕ) (b : Bool) (l n : ℕ) (ts : List Token) → IsWellChain b c → depth_chain c ≤ d → Follows (last_open c) ts → length (chain_inner c ts) ≤ n → ReadsChain d b l n c ts
  chain_reads (First i o f c s) d b l n ts w h fo e = first_turn d b l n i o f c s ts w.0 (omega arith) (stmt_reads s d b ts w.1 (omega arith) fo) e
  chain_reads (Further a q i o f c s) d b l n ts w h fo e =
      let us = the q word.Else ∷ the i word.If ∷ form.condition o f c (tokens s ts) in
      let k = chain_reads a d b l n us w.0 (omega arith) (subst (λ v. Follows v us) (sym w.1) tt) e in
      further_at d b l n k.turns a q i o f c s ts w.2 (omega arith) (stmt_reads s d b ts w.3 (omega arith) fo) k.enough k.reads
