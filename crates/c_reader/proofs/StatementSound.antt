-- What is read is spelled: statements.
use Rattle.std.proofs.Common.{◌≡◌, ℕ, zero, suc, ◌+◌, ◌<◌, ◌≤◌, List, [], ◌∷◌, ◌++◌, length, Option, Some, None, refl, sym, ap, ◌∙◌, subst, arith, append_assoc, append-nil, true, false, Bool}
use Rattle.std.specs.Prelude.{max}
use Rattle.c_tree.specs.declared.token.Token.{Token}
use Rattle.c_tree.specs.declared.token.Word.TheVariants as word
use Rattle.c_tree.specs.declared.tree.Arm.{Arm}
use Rattle.c_tree.specs.declared.tree.Stmt.{Stmt}
use Rattle.c_tree.specs.declared.tree.Stmt.TheVariants as stmt'
use Rattle.c_tree.specs.Scan.{Spot}
use Rattle.c_tree.specs.Expressions.{Form, the}
use Rattle.c_tree.specs.Expressions as expr'
use Rattle.c_tree.specs.Listed.{Listed}
use Rattle.c_tree.specs.Listed as list
use Rattle.c_tree.specs.Statements.{local_tokens, local_tree, local_depth, single_tokens, single_tree, StmtForm, Single, Block, If, IfElse, While, Do, For, StmtForms, End, Then, Declares, Chain, First, Further, condition, tokens, tokens_all, tokens_chain, first_line, chain_line, arm, tree, trees, arms, depth, depth_all, depth_chain, open_end, is_if, last_open, IsWell, AreWell, IsWellChain, init_tree, test_tree, update_tree, head_tokens}
use Rattle.c_reader.specs.declared.assignments.Head.{Head}
use Rattle.c_reader.specs.declared.singles.Start.{Start}
use Rattle.c_reader.specs.declared.singles.Start.TheVariants as start'
use Rattle.c_reader.specs.Reading.{Got, got, Read, ◌>>=◌, after, tail}
use Rattle.c_reader.specs.ReadingStatements as r
use Rattle.c_reader.proofs.TokenKinds.{after_is}
use Rattle.c_reader.proofs.Sound.{bind_some}
use Rattle.c_reader.proofs.Assigning.{condition_sound, SpeltHead, head_sound}
use Rattle.c_reader.proofs.LocalForms.{declaration_below_sound}
use Rattle.c_reader.proofs.SingleForms.{Begun, begun, single_line, ended_sound}
use Rattle.c_reader.proofs.StatementsGrow.{condition_grows, declares_grow, stmt_grows}
use Rattle.c_reader.proofs.StatementReads.{Follows, chain_inner, chain_is, within_is}

-- a spelling of a statement that was read within the depth
pub record SpeltStmt (d : ℕ) (b : Bool) (ts : List Token) (x : Got Stmt) : Type 0 where
  pub form : StmtForm
  pub well : IsWell b form
  pub within : depth form ≤ d
  pub tree_is : tree form ≡ x.value
  pub tokens_are : ts ≡ tokens form x.rest
  pub follows : Follows (open_end form) x.rest

-- a reader of statements within the depth d
abbrev pub GoodStmt : ℕ → r.Deeper → Type 0
GoodStmt d deeper = (b : Bool) (ts : List Token) (x : Got Stmt) → deeper b ts ≡ Some x → SpeltStmt d b ts x

no_else_in : (b : Bool) (s : Spot) (ts : List Token) → Follows b (the s word.Else ∷ ts) → b ≡ false
no_else_in true s ts h = let q : Some ts ≡ None = h in absurd cc
no_else_in false s ts h = refl

-- a statement before which no `if` stands
starts_no_if : (s : StmtForm) (ts us : List Token) → after word.If ts ≡ None → ts ≡ tokens s us → is_if s ≡ false
starts_no_if (Single f e) ts us n t = refl
starts_no_if (Block o fs c) ts us n t = refl
starts_no_if (If c) ts us n t = let q : None ≡ Some (chain_inner c us) = sym n ∙ ap (after word.If) (t ∙ chain_is c us) in absurd cc
starts_no_if (IfElse c e s) ts us n t =
    let vs = the e word.Else ∷ tokens s us in
    let q : None ≡ Some (chain_inner c vs) = sym n ∙ ap (after word.If) (t ∙ chain_is c vs) in absurd cc
starts_no_if (While w o f c s) ts us n t = refl
starts_no_if (Do d s w o f c e) ts us n t = refl
starts_no_if (For l h s) ts us n t = refl

-- ---- blocks

-- the rest of a block, after xs
record Rest (d : ℕ) (b : Bool) (xs : List Stmt) (ts : List Token) (x : Got (List Stmt)) : Type 0 where
  forms : StmtForms
  closes : Spot
  well : AreWell b forms
  within : depth_all forms ≤ d
  trees_are : xs ++ trees forms ≡ x.value
  tokens_are : ts ≡ tokens_all forms (the closes word.RBrace ∷ x.rest)

-- an entry of a block, before others
record Entry (d : ℕ) (b : Bool) (ts : List Token) (x : Got Stmt) : Type 0 where
  with_more : StmtForms → StmtForms
  well : (fs : StmtForms) → AreWell b fs → AreWell b (with_more fs)
  within : (fs : StmtForms) → depth_all fs ≤ d → depth_all (with_more fs) ≤ d
  trees_are : (fs : StmtForms) → trees (with_more fs) ≡ x.value ∷ trees fs
  tokens_are : (fs : StmtForms) (us : List Token) → x.rest ≡ tokens_all fs us → ts ≡ tokens_all (with_more fs) us

max_le : (a b d : ℕ) → a ≤ d → b ≤ d → max a b ≤ d
max_le a b d p q = omega arith

entry_stmt : (d : ℕ) (b : Bool) (ts : List Token) (x : Got Stmt) → SpeltStmt d b ts x → Entry d b ts x
entry_stmt d b ts x s =
    record {
      with_more = Then s.form;
      well = λ fs w. (s.well, w);
      within = λ fs l. max_le (depth s.form) (depth_all fs) d s.within l;
      trees_are = λ fs. ap (λ v. v ∷ trees fs) s.tree_is;
      tokens_are = λ fs us e. s.tokens_are ∙ ap (tokens s.form) e;
    }

entry_declaration : (d : ℕ) (b : Bool) (ts us : List Token) (x : Got Stmt) → after word.Long ts ≡ Some us → r.declaration_below d (first_line ts) us ≡ Some x → Entry d b ts x
entry_declaration d b ts us x a h =
    let o = after_is word.Long ts us a in
    let s = declaration_below_sound d (first_line ts) us x h in
    let l : o.0.line ≡ first_line ts = sym (ap first_line o.1) in
    record {
      with_more = Declares o.0 s.forms s.ends;
      well = λ fs w. (s.well, w);
      within = λ fs m. max_le (list.depth local_depth s.forms + 1) (depth_all fs) d s.within m;
      trees_are = λ fs. ap (λ v. v ∷ trees fs) (ap (λ n. stmt'.Declare n (list.trees local_tree s.forms)) l ∙ s.tree_is);
      tokens_are = λ fs vs e. o.1 ∙ ap (λ v. the o.0 word.Long ∷ v) (s.tokens_are ∙ ap (λ v. list.tokens local_tokens s.forms (the s.ends word.Semi ∷ v)) e);
    }

module _ (d : ℕ) (deeper : r.Deeper) (good : GoodStmt d deeper) where
  entry_at : (b : Bool) (ts : List Token) (o : Option (List Token)) (x : Got Stmt) → after word.Long ts ≡ o → r.entry_of d deeper b ts o ≡ Some x → Entry d b ts x
  entry_at b ts None x a h = entry_stmt d b ts x (good b ts x h)
  entry_at b ts (Some us) x a h = entry_declaration d b ts us x a h

  rest_end : (b : Bool) (xs : List Stmt) (ts us : List Token) (x : Got (List Stmt)) → after word.RBrace ts ≡ Some us → got xs us ≡ x → Rest d b xs ts x
  rest_end b xs ts us x a e =
      let o = after_is word.RBrace ts us a in
      subst (Rest d b xs ts) e (record { forms = End; closes = o.0; well = tt; within = omega arith; trees_are = append-nil xs; tokens_are = o.1 })

  rest_more : (b : Bool) (xs : List Stmt) (ts : List Token) (s : Got Stmt) (x : Got (List Stmt)) → Entry d b ts s → Rest d b (xs ++ s.value ∷ []) s.rest x → Rest d b xs ts x
  rest_more b xs ts s x e q =
      record {
        forms = e.with_more q.forms;
        closes = q.closes;
        well = e.well q.forms q.well;
        within = e.within q.forms q.within;
        trees_are = ap (λ v. xs ++ v) (e.trees_are q.forms) ∙ sym (append_assoc xs (s.value ∷ []) (trees q.forms)) ∙ q.trees_are;
        tokens_are = e.tokens_are q.forms (the q.closes word.RBrace ∷ x.rest) q.tokens_are;
      }

  block_turn_sound : (b : Bool) (go : List Stmt → List Token → Read (List Stmt)) (xs : List Stmt) (ts : List Token) (o : Option (List Token)) (x : Got (List Stmt)) → after word.RBrace ts ≡ o
      → ((s : Got Stmt) → go (xs ++ s.value ∷ []) s.rest ≡ Some x → Rest d b (xs ++ s.value ∷ []) s.rest x)
      → r.block_turn d deeper b go xs ts o ≡ Some x → Rest d b xs ts x
  block_turn_sound b go xs ts (Some us) x a k h = rest_end b xs ts us x a cc
  block_turn_sound b go xs ts None x a k h =
      let q = bind_some (r.entry d deeper b ts) (λ s. go (xs ++ s.value ∷ []) s.rest) x h in
      rest_more b xs ts q.0 x (entry_at b ts (after word.Long ts) q.0 refl q.1) (k q.0 q.2)

  block_sound : (b : Bool) (n : ℕ) (xs : List Stmt) (ts : List Token) (x : Got (List Stmt)) → r.block d deeper b n xs ts ≡ Some x → Rest d b xs ts x
  block_sound b zero xs ts x h = block_turn_sound b (λ _ _. None) xs ts (after word.RBrace ts) x refl (λ s e. absurd cc) h
  block_sound b (suc n) xs ts x h = block_turn_sound b (r.block d deeper b n) xs ts (after word.RBrace ts) x refl (λ s e. block_sound b n (xs ++ s.value ∷ []) s.rest x e) h

  block_stmt : (b : Bool) (ts : List Token) (x : Got Stmt) → Begun start'.Block ts → (r.block d deeper b (length (tail ts)) [] (tail ts) >>= (λ y. Some (got (stmt'.Block (first_line ts) y.value) y.rest))) ≡ Some x → SpeltStmt (d + 1) b ts x
  block_stmt b ts x g h =
      let a = bind_some (r.block d deeper b (length (tail ts)) [] (tail ts)) (λ y. Some (got (stmt'.Block (first_line ts) y.value) y.rest)) x h in
      let s = block_sound b (length (tail ts)) [] (tail ts) a.0 a.1 in
      let e : got (stmt'.Block (first_line ts) a.0.value) a.0.rest ≡ x = cc (a.2) in
      subst (SpeltStmt (d + 1) b ts) e (record {
        form = Block g.spot s.forms s.closes;
        well = s.well;
        within = omega (arith, s.within);
        tree_is = ap (λ l. stmt'.Block l (trees s.forms)) g.line_is ∙ ap (stmt'.Block (first_line ts)) s.trees_are;
        tokens_are = g.tokens_are ∙ ap (λ v. the g.spot word.LBrace ∷ v) s.tokens_are;
        follows = tt;
      })

  -- ---- loops

  while_stmt : (b : Bool) (ts : List Token) (x : Got Stmt) → Begun start'.While ts → r.while_loop d deeper (first_line ts) (tail ts) ≡ Some x → SpeltStmt (d + 1) b ts x
  while_stmt b ts x g h =
      let a = bind_some (r.condition d (tail ts)) (λ x. deeper true x.rest >>= (λ s. Some (got (stmt'.While (first_line ts) x.value s.value) s.rest))) x h in
      let c = condition_sound d (tail ts) a.0 a.1 in
      let q = bind_some (deeper true a.0.rest) (λ s. Some (got (stmt'.While (first_line ts) a.0.value s.value) s.rest)) x a.2 in
      let s = good true a.0.rest q.0 q.1 in
      let e : got (stmt'.While (first_line ts) a.0.value q.0.value) q.0.rest ≡ x = cc (q.2) in
      subst (SpeltStmt (d + 1) b ts) e (record {
        form = While g.spot c.opens c.form c.closes s.form;
        well = (c.well, s.well);
        within = omega (arith, c.within, s.within);
        tree_is = ap (λ l. stmt'.While l (expr'.tree c.form) (tree s.form)) g.line_is ∙ ap (λ t. stmt'.While (first_line ts) t (tree s.form)) c.tree_is ∙ ap (stmt'.While (first_line ts) a.0.value) s.tree_is;
        tokens_are = g.tokens_are ∙ ap (λ v. the g.spot word.While ∷ v) (c.tokens_are ∙ ap (condition c.opens c.form c.closes) s.tokens_are);
        follows = s.follows;
      })

  do_is : (b : Bool) (l : ℕ) (ts us : List Token) (g : Spot) (s : Got Stmt) (x : Got Stmt) → g.line ≡ l → ts ≡ the g word.Do ∷ us → SpeltStmt d true us s → r.do_test d l s ≡ Some x → SpeltStmt (d + 1) b ts x
  do_is b l ts us g s x gl t p h =
      let a = bind_some (after word.While s.rest) (λ us. r.condition d us >>= (λ x. after word.Semi x.rest >>= (λ vs. Some (got (stmt'.Do l s.value x.value) vs)))) x h in
      let w = after_is word.While s.rest a.0 a.1 in
      let q = bind_some (r.condition d a.0) (λ x. after word.Semi x.rest >>= (λ vs. Some (got (stmt'.Do l s.value x.value) vs))) x a.2 in
      let c = condition_sound d a.0 q.0 q.1 in
      let k = bind_some (after word.Semi q.0.rest) (λ vs. Some (got (stmt'.Do l s.value q.0.value) vs)) x q.2 in
      let z = after_is word.Semi q.0.rest k.0 k.1 in
      let e : got (stmt'.Do l s.value q.0.value) k.0 ≡ x = cc (k.2) in
      subst (SpeltStmt (d + 1) b ts) e (record {
        form = Do g p.form w.0 c.opens c.form c.closes z.0;
        well = (p.well, c.well);
        within = omega (arith, c.within, p.within);
        tree_is = ap (λ n. stmt'.Do n (tree p.form) (expr'.tree c.form)) gl ∙ ap (λ y. stmt'.Do l y (expr'.tree c.form)) p.tree_is ∙ ap (stmt'.Do l s.value) c.tree_is;
        tokens_are = t ∙ ap (λ v. the g word.Do ∷ v) (p.tokens_are ∙ ap (tokens p.form) (w.1 ∙ ap (λ v. the w.0 word.While ∷ v) (c.tokens_are ∙ ap (condition c.opens c.form c.closes) z.1)));
        follows = tt;
      })

  do_stmt : (b : Bool) (ts : List Token) (x : Got Stmt) → Begun start'.Do ts → r.do_loop d deeper (first_line ts) (tail ts) ≡ Some x → SpeltStmt (d + 1) b ts x
  do_stmt b ts x g h =
      let a = bind_some (deeper true (tail ts)) (r.do_test d (first_line ts)) x h in
      do_is b (first_line ts) ts (tail ts) g.spot a.0 x g.line_is g.tokens_are (good true (tail ts) a.0 a.1) a.2

  for_is : (b : Bool) (l : ℕ) (ts us : List Token) (g : Spot) (k : Got Head) (s : Got Stmt) → g.line ≡ l → ts ≡ the g word.For ∷ us → SpeltHead d us k → SpeltStmt d true k.rest s
      → SpeltStmt (d + 1) b ts (got (stmt'.For l k.value.init k.value.test k.value.update s.value) s.rest)
  for_is b l ts us g k s gl t p q =
      record {
        form = For g p.form q.form;
        well = (p.well, q.well);
        within = omega (arith, p.within, q.within);
        tree_is =
            ap (λ n. stmt'.For n (init_tree p.form.init) (test_tree p.form.test) (update_tree p.form.update) (tree q.form)) gl
            ∙ ap (λ y. stmt'.For l y (test_tree p.form.test) (update_tree p.form.update) (tree q.form)) p.init_is
            ∙ ap (λ y. stmt'.For l k.value.init y (update_tree p.form.update) (tree q.form)) p.test_is
            ∙ ap (λ y. stmt'.For l k.value.init k.value.test y (tree q.form)) p.update_is
            ∙ ap (stmt'.For l k.value.init k.value.test k.value.update) q.tree_is;
        tokens_are = t ∙ ap (λ v. the g word.For ∷ v) (p.tokens_are ∙ ap (head_tokens p.form) q.tokens_are);
        follows = q.follows;
      }

  for_stmt : (b : Bool) (ts : List Token) (x : Got Stmt) → Begun start'.For ts → r.for_loop d deeper (first_line ts) (tail ts) ≡ Some x → SpeltStmt (d + 1) b ts x
  for_stmt b ts x g h =
      let l = first_line ts in
      let a = bind_some (r.head d (tail ts)) (λ h. deeper true h.rest >>= (λ s. Some (got (stmt'.For l h.value.init h.value.test h.value.update s.value) s.rest))) x h in
      let q = bind_some (deeper true a.0.rest) (λ s. Some (got (stmt'.For l a.0.value.init a.0.value.test a.0.value.update s.value) s.rest)) x a.2 in
      let e : got (stmt'.For l a.0.value.init a.0.value.test a.0.value.update q.0.value) q.0.rest ≡ x = cc (q.2) in
      subst (SpeltStmt (d + 1) b ts) e (for_is b l ts (tail ts) g.spot a.0 q.0 g.line_is g.tokens_are (head_sound d (tail ts) a.0 a.1) (good true a.0.rest q.0 q.1))

  -- ---- the arms of an `if`

  pub record SpeltArm (b : Bool) (ts : List Token) (x : Got Arm) : Type 0 where
    pub opens : Spot
    pub test : Form
    pub closes : Spot
    pub body : StmtForm
    pub well_test : expr'.IsWell test
    pub well : IsWell b body
    pub within : max (expr'.depth test) (depth body) ≤ d
    pub arm_is : arm test (tree body) ≡ x.value
    pub tokens_are : ts ≡ condition opens test closes (tokens body x.rest)
    pub follows : Follows (open_end body) x.rest

  pub arm_sound : (b : Bool) (ts : List Token) (x : Got Arm) → r.arm d deeper b ts ≡ Some x → SpeltArm b ts x
  arm_sound b ts x h =
      let a = bind_some (r.condition d ts) (λ x. deeper b x.rest >>= (λ s. Some (got (r.arm_of x.value s.value) s.rest))) x h in
      let c = condition_sound d ts a.0 a.1 in
      let q = bind_some (deeper b a.0.rest) (λ s. Some (got (r.arm_of a.0.value s.value) s.rest)) x a.2 in
      let s = good b a.0.rest q.0 q.1 in
      let e : got (r.arm_of a.0.value q.0.value) q.0.rest ≡ x = cc (q.2) in
      subst (SpeltArm b ts) e (record {
        opens = c.opens;
        test = c.form;
        closes = c.closes;
        body = s.form;
        well_test = c.well;
        well = s.well;
        within = omega (arith, c.within, s.within);
        arm_is = ap (λ y. r.arm_of y (tree s.form)) c.tree_is ∙ ap (r.arm_of a.0.value) s.tree_is;
        tokens_are = c.tokens_are ∙ ap (condition c.opens c.form c.closes) s.tokens_are;
        follows = s.follows;
      })

  -- the arms so far, from the first `if` on
  record SoFar (b : Bool) (l : ℕ) (ts : List Token) (xs : List Arm) (rest : List Token) : Type 0 where
    chain : Chain
    well : IsWellChain b chain
    within : depth_chain chain ≤ d
    line_is : chain_line chain ≡ l
    arms_are : arms chain ≡ xs
    tokens_are : ts ≡ tokens_chain chain rest
    follows : Follows (last_open chain) rest

  if_ends : (b : Bool) (l : ℕ) (ts : List Token) (xs : List Arm) (rest : List Token) (x : Got Stmt) → SoFar b l ts xs rest → after word.Else rest ≡ None → Some (got (stmt'.If l xs None) rest) ≡ Some x → SpeltStmt (d + 1) b ts x
  if_ends b l ts xs rest x s n h =
      let e : got (stmt'.If l xs None) rest ≡ x = cc (h) in
      subst (SpeltStmt (d + 1) b ts) e (record {
        form = If s.chain;
        well = s.well;
        within = omega (arith, s.within);
        tree_is = ap (λ v. stmt'.If v (arms s.chain) None) s.line_is ∙ ap (λ v. stmt'.If l v None) s.arms_are;
        tokens_are = s.tokens_are;
        follows = n;
      })

  if_else : (b : Bool) (l : ℕ) (ts : List Token) (xs : List Arm) (rest us : List Token) (x : Got Stmt) → SoFar b l ts xs rest → after word.Else rest ≡ Some us → after word.If us ≡ None
      → (deeper b us >>= (λ s. Some (got (stmt'.If l xs (Some s.value)) s.rest))) ≡ Some x → SpeltStmt (d + 1) b ts x
  if_else b l ts xs rest us x s o n h =
      let k = after_is word.Else rest us o in
      let a = bind_some (deeper b us) (λ s. Some (got (stmt'.If l xs (Some s.value)) s.rest)) x h in
      let q = good b us a.0 a.1 in
      let e : got (stmt'.If l xs (Some a.0.value)) a.0.rest ≡ x = cc (a.2) in
      let c : last_open s.chain ≡ false = no_else_in (last_open s.chain) k.0 us (subst (Follows (last_open s.chain)) k.1 s.follows) in
      let i : is_if q.form ≡ false = starts_no_if q.form us a.0.rest n q.tokens_are in
      subst (SpeltStmt (d + 1) b ts) e (record {
        form = IfElse s.chain k.0 q.form;
        well = (s.well, c, i, q.well);
        within = omega (arith, s.within, q.within);
        tree_is = ap (λ v. stmt'.If v (arms s.chain) (Some (tree q.form))) s.line_is ∙ ap (λ v. stmt'.If l v (Some (tree q.form))) s.arms_are ∙ ap (λ v. stmt'.If l xs (Some v)) q.tree_is;
        tokens_are = s.tokens_are ∙ ap (tokens_chain s.chain) (k.1 ∙ ap (λ v. the k.0 word.Else ∷ v) q.tokens_are);
        follows = q.follows;
      })

  further_is : (b : Bool) (l : ℕ) (ts : List Token) (xs : List Arm) (rest us vs : List Token) (a : Got Arm) → SoFar b l ts xs rest → after word.Else rest ≡ Some us → after word.If us ≡ Some vs → SpeltArm b vs a → SoFar b l ts (xs ++ a.value ∷ []) a.rest
  further_is b l ts xs rest us vs a s o i q =
      let k = after_is word.Else rest us o in
      let m = after_is word.If us vs i in
      let c : last_open s.chain ≡ false = no_else_in (last_open s.chain) k.0 us (subst (Follows (last_open s.chain)) k.1 s.follows) in
      record {
        chain = Further s.chain k.0 m.0 q.opens q.test q.closes q.body;
        well = (s.well, c, q.well_test, q.well);
        within = omega (arith, s.within, q.within);
        line_is = s.line_is;
        arms_are = ap (λ v. v ++ arm q.test (tree q.body) ∷ []) s.arms_are ∙ ap (λ v. xs ++ v ∷ []) q.arm_is;
        tokens_are = s.tokens_are ∙ ap (tokens_chain s.chain) (k.1 ∙ ap (λ v. the k.0 word.Else ∷ v) (m.1 ∙ ap (λ v. the m.0 word.If ∷ v) q.tokens_are));
        follows = q.follows;
      }

  last_sound : (b : Bool) (l : ℕ) (ts : List Token) (xs : List Arm) (rest us : List Token) (go : List Arm → List Token → Read Stmt) (o : Option (List Token)) (x : Got Stmt) → SoFar b l ts xs rest → after word.Else rest ≡ Some us → after word.If us ≡ o
      → ((vs : List Token) → after word.If us ≡ Some vs → go xs vs ≡ Some x → SpeltStmt (d + 1) b ts x)
      → r.last_arm deeper b l go xs us o ≡ Some x → SpeltStmt (d + 1) b ts x
  last_sound b l ts xs rest us go (Some vs) x s a i k h = k vs i h
  last_sound b l ts xs rest us go None x s a i k h = if_else b l ts xs rest us x s a i h

  on_sound : (b : Bool) (l : ℕ) (ts : List Token) (xs : List Arm) (rest : List Token) (go : List Arm → List Token → Read Stmt) (o : Option (List Token)) (x : Got Stmt) → SoFar b l ts xs rest → after word.Else rest ≡ o
      → ((us vs : List Token) → after word.Else rest ≡ Some us → after word.If us ≡ Some vs → go xs vs ≡ Some x → SpeltStmt (d + 1) b ts x)
      → r.chain_on deeper b l go xs rest o ≡ Some x → SpeltStmt (d + 1) b ts x
  on_sound b l ts xs rest go None x s a k h = if_ends b l ts xs rest x s a h
  on_sound b l ts xs rest go (Some us) x s a k h = last_sound b l ts xs rest us go (after word.If us) x s a refl (λ vs i g. k us vs a i g) h

  further_sound : (b : Bool) (l n : ℕ) (ts : List Token) (xs : List Arm) (rest us vs : List Token) (x : Got Stmt) → SoFar b l ts xs rest → after word.Else rest ≡ Some us → after word.If us ≡ Some vs → r.chain d deeper b l n xs vs ≡ Some x → SpeltStmt (d + 1) b ts x
  further_sound b l zero ts xs rest us vs x s o i h = absurd cc
  further_sound b l (suc n) ts xs rest us vs x s o i h =
      let a = bind_some (r.arm d deeper b vs) (λ a. r.chain_on deeper b l (r.chain d deeper b l n) (xs ++ a.value ∷ []) a.rest (after word.Else a.rest)) x h in
      let now = further_is b l ts xs rest us vs a.0 s o i (arm_sound b vs a.0 a.1) in
      on_sound b l ts (xs ++ a.0.value ∷ []) a.0.rest (r.chain d deeper b l n) (after word.Else a.0.rest) x now refl (λ p q e f g. further_sound b l n ts (xs ++ a.0.value ∷ []) a.0.rest p q x now e f g) a.2

  first_is : (b : Bool) (l : ℕ) (ts us : List Token) (i : Spot) (a : Got Arm) → i.line ≡ l → ts ≡ the i word.If ∷ us → SpeltArm b us a → SoFar b l ts (a.value ∷ []) a.rest
  first_is b l ts us i a il t q =
      record {
        chain = First i q.opens q.test q.closes q.body;
        well = (q.well_test, q.well);
        within = q.within;
        line_is = il;
        arms_are = ap (λ v. v ∷ []) q.arm_is;
        tokens_are = t ∙ ap (λ v. the i word.If ∷ v) q.tokens_are;
        follows = q.follows;
      }

  chain_sound : (b : Bool) (l n : ℕ) (ts us : List Token) (i : Spot) (x : Got Stmt) → i.line ≡ l → ts ≡ the i word.If ∷ us → r.chain d deeper b l n [] us ≡ Some x → SpeltStmt (d + 1) b ts x
  chain_sound b l zero ts us i x il t h = absurd cc
  chain_sound b l (suc n) ts us i x il t h =
      let a = bind_some (r.arm d deeper b us) (λ a. r.chain_on deeper b l (r.chain d deeper b l n) ([] ++ a.value ∷ []) a.rest (after word.Else a.rest)) x h in
      let now = first_is b l ts us i a.0 il t (arm_sound b us a.0 a.1) in
      on_sound b l ts (a.0.value ∷ []) a.0.rest (r.chain d deeper b l n) (after word.Else a.0.rest) x now refl (λ p q e f g. further_sound b l n ts (a.0.value ∷ []) a.0.rest p q x now e f g) a.2

  -- ---- any statement

  single_stmt : (b : Bool) (st : Start) (ts : List Token) (x : Got Stmt) → r.start ts ≡ st → r.ended d b (first_line ts) st ts ≡ Some x → SpeltStmt (d + 1) b ts x
  single_stmt b st ts x e h =
      let s = ended_sound d b (first_line ts) ts st x e h in
      let l : first_line (single_tokens s.form (the s.ends word.Semi ∷ [])) ≡ first_line ts = single_line s.form s.ends [] x.rest ∙ sym (ap first_line s.tokens_are) in
      record {
        form = Single s.form s.ends;
        well = s.well;
        within = omega (arith, s.within);
        tree_is = ap (λ n. single_tree n s.form) l ∙ s.tree_is;
        tokens_are = s.tokens_are;
        follows = tt;
      }

  statement_at : (b : Bool) (st : Start) (ts : List Token) (x : Got Stmt) → r.start ts ≡ st → r.statement_of d deeper b (first_line ts) st ts ≡ Some x → SpeltStmt (d + 1) b ts x
  statement_at b start'.Block ts x e h = block_stmt b ts x (begun ts start'.Block e refl) h
  statement_at b start'.If ts x e h = let g = begun ts start'.If e refl in chain_sound b (first_line ts) (length (tail ts)) ts (tail ts) g.spot x g.line_is g.tokens_are h
  statement_at b start'.While ts x e h = while_stmt b ts x (begun ts start'.While e refl) h
  statement_at b start'.Do ts x e h = do_stmt b ts x (begun ts start'.Do e refl) h
  statement_at b start'.For ts x e h = for_stmt b ts x (begun ts start'.For e refl) h
  statement_at b st ts x e h = single_stmt b st ts x e h

deepened : (d : ℕ) (b : Bool) (ts : List Token) (x : Got Stmt) → SpeltStmt (d + 1) b ts x → SpeltStmt (suc d) b ts x
deepened d b ts x s = record { form = s.form; well = s.well; within = omega (arith, s.within); tree_is = s.tree_is; tokens_are = s.tokens_are; follows = s.follows }

nothing_read : (b : Bool) (ts : List Token) → r.stmt_within 0 b ts ≡ None
unfolding r.stmt_within
nothing_read b ts = refl

pub good_stmt : (d : ℕ) → GoodStmt d (r.stmt_within d)
good_stmt zero b ts x h = let q : None ≡ Some x = sym (nothing_read b ts) ∙ h in absurd cc
good_stmt (suc d) b ts x h = deepened d b ts x (statement_at d (r.stmt_within d) (good_stmt d) b (r.start ts) ts x refl (sym (within_is d b ts) ∙ h))

-- what stands up to the brace that closes a block
pub record SpeltBlock (d : ℕ) (b : Bool) (ts : List Token) (x : Got (List Stmt)) : Type 0 where
  pub forms : StmtForms
  pub closes : Spot
  pub well : AreWell b forms
  pub within : depth_all forms ≤ d
  pub trees_are : trees forms ≡ x.value
  pub tokens_are : ts ≡ tokens_all forms (the closes word.RBrace ∷ x.rest)

pub good_block : (d : ℕ) (b : Bool) (n : ℕ) (ts : List Token) (x : Got (List Stmt)) → r.block d (r.stmt_within d) b n [] ts ≡ Some x → SpeltBlock d b ts x
good_block d b n ts x h =
    let s = block_sound d (r.stmt_within d) (good_stmt d) b n [] ts x h in
    record { forms = s.forms; closes = s.closes; well = s.well; within = s.within; trees_are = s.trees_are; tokens_are = s.tokens_are }

-- ---- what is read takes tokens

pub stmt_takes : (d : ℕ) (b : Bool) (ts : List Token) (x : Got Stmt) → r.stmt_within d b ts ≡ Some x → length x.rest < length ts
stmt_takes d b ts x h = let s = good_stmt d b ts x h in omega (arith, ap length s.tokens_are, stmt_grows s.form x.rest)

entry_takes_at : (d : ℕ) (b : Bool) (ts : List Token) (o : Option (List Token)) (x : Got Stmt) → after word.Long ts ≡ o → r.entry_of d (r.stmt_within d) b ts o ≡ Some x → length x.rest < length ts
entry_takes_at d b ts None x a h = stmt_takes d b ts x h
entry_takes_at d b ts (Some us) x a h =
    let o = after_is word.Long ts us a in
    let s = declaration_below_sound d (first_line ts) us x h in
    omega (arith, ap length o.1, ap length s.tokens_are, declares_grow s.forms s.ends x.rest)

pub entry_takes : (d : ℕ) (b : Bool) (ts : List Token) (x : Got Stmt) → r.entry d (r.stmt_within d) b ts ≡ Some x → length x.rest < length ts
entry_takes d b ts x h = entry_takes_at d b ts (after word.Long ts) x refl h

pub arm_takes : (d : ℕ) (b : Bool) (ts : List Token) (x : Got Arm) → r.arm d (r.stmt_within d) b ts ≡ Some x → length x.rest < length ts
arm_takes d b ts x h =
    let s = arm_sound d (r.stmt_within d) (good_stmt d) b ts x h in
    omega (arith, ap length s.tokens_are, condition_grows s.opens s.test s.closes (tokens s.body x.rest), stmt_grows s.body x.rest)
