-- What is read is spelled, and what is spelled is read: calls and their values.
use Rattle.std.proofs.Common.{◌≡◌, ℕ, zero, suc, ◌+◌, ◌≤◌, List, [], ◌∷◌, length, Option, Some, None, refl, sym, ap, ◌∙◌, subst, arith, true, false, Bool}
use Rattle.c_tree.specs.declared.token.Token.{Token}
use Rattle.c_tree.specs.declared.token.Word.{Word}
use Rattle.c_tree.specs.declared.token.Word.TheVariants as word
use Rattle.c_tree.specs.declared.tree.Unary.TheVariants as unary
use Rattle.c_tree.specs.declared.tree.Binary.{Binary}
use Rattle.c_tree.specs.declared.tree.Binary.TheVariants as binary
use Rattle.c_tree.specs.declared.tree.Name.{Name}
use Rattle.c_tree.specs.declared.tree.Expr.{Expr}
use Rattle.c_tree.specs.declared.tree.Callee.{Callee}
use Rattle.c_tree.specs.declared.tree.Callee.TheVariants as callee'
use Rattle.c_tree.specs.declared.tree.Given.{Given}
use Rattle.c_tree.specs.declared.tree.Given.TheVariants as given'
use Rattle.c_tree.specs.Scan.{Spot}
use Rattle.c_tree.specs.Expressions.{Form, Num, Eof, Null, Named, Index, Address, AddressAt, Brackets, Sign, Both, the, name_at, mark, IsWell, tree, tokens, depth}
use Rattle.c_tree.specs.Listed.{Listed}
use Rattle.c_tree.specs.Listed as list
use Rattle.c_tree.specs.Calls.{Values, values_tokens, values_trees, AreWell, values_depth, CalleeForm, Main, CallForm, Calls, Input, callee_token, call_tokens, IsWellCall, call_depth, call_stmt, GivenForm, Value, Answer, given_tokens, IsWellGiven, given_depth}
use Rattle.c_tree.specs.Calls as spelt
use Rattle.c_reader.specs.declared.look.Opening.{Opening}
use Rattle.c_reader.specs.declared.look.Opening.TheVariants as opening
use Rattle.c_reader.specs.declared.calls.Called.{Called}
use Rattle.c_reader.specs.declared.calls.Called.TheVariants as called'
use Rattle.c_reader.specs.Reading.{Got, got, ◌>>=◌, same, if_same, word_of, front, after_word, after, name, opening_of, value}
use Rattle.c_reader.specs.Listing.{push}
use Rattle.c_reader.specs.ReadingCalls.{values, values_below, arguments_of, arguments, callee_of, callee, call_of, call, is_there, is_call, given_by, stmt_by, given_of, given}
use Rattle.c_reader.proofs.TokenKinds.{same_is, after_is}
use Rattle.c_reader.proofs.Complete.{Ends, value_read}
use Rattle.c_reader.proofs.Sound.{bind_some, name_is, value_sound}
use Rattle.c_reader.proofs.Listings.{Item, Reads, listed_read, listed_sound, pushed, all_within, all_well}
use Rattle.c_reader.proofs.Takes.{form_grows}

-- ---- what stands in front of an expression

abbrev pub begins : Opening → Bool
begins opening.Nothing = false
begins _ = true

abbrev pub may_begin : Option Word → Bool
may_begin None = true
may_begin (Some w) = begins (opening_of w)

pub form_front : (f : Form) (ts : List Token) → may_begin (front (tokens f ts)) ≡ true
form_front (Num s n) ts = refl
form_front (Eof s) ts = refl
form_front (Null s) ts = refl
form_front (Named s x) ts = refl
form_front (Index s x o f c) ts = refl
form_front (Address s n x) ts = refl
form_front (AddressAt s n x o f c) ts = refl
form_front (Brackets o f c) ts = refl
form_front (Sign s unary.Neg f) ts = refl
form_front (Sign s unary.Not f) ts = refl
form_front (Sign s unary.Inv f) ts = refl
form_front (Sign s unary.Deref f) ts = refl
form_front (Both f s op g) ts = form_front f (the s (mark op) ∷ tokens g ts)

other_word : (w v : Word) (b : Bool) (ts : List Token) → same v w ≡ b → begins (opening_of w) ≡ false → begins (opening_of v) ≡ true → if_same b ts ≡ None
other_word w v true ts e n y = let q : false ≡ true = sym n ∙ ap (λ u. begins (opening_of u)) (sym (same_is v w e)) ∙ y in absurd cc
other_word w v false ts e n y = refl

other_at : (w : Word) (o : Option Word) (ts : List Token) → begins (opening_of w) ≡ false → may_begin o ≡ true → after_word w o ts ≡ None
other_at w None ts n y = refl
other_at w (Some v) ts n y = other_word w v (same v w) ts refl n y

-- a word that begins no expression does not stand there
pub other_front : (w : Word) (ts : List Token) → begins (opening_of w) ≡ false → may_begin (front ts) ≡ true → after w ts ≡ None
other_front w [] n y = refl
other_front w (t ∷ ts) n y = other_at w (word_of t.kind) ts n y

pub not_in_front : (w : Word) (f : Form) (ts : List Token) → begins (opening_of w) ≡ false → after w (tokens f ts) ≡ None
not_in_front w f ts n = other_front w (tokens f ts) n (form_front f ts)

no_call_mark : (s : Spot) (op : Binary) (ts : List Token) → after word.LParen (the s (mark op) ∷ ts) ≡ None
no_call_mark s binary.Or ts = refl
no_call_mark s binary.And ts = refl
no_call_mark s binary.BitOr ts = refl
no_call_mark s binary.BitXor ts = refl
no_call_mark s binary.BitAnd ts = refl
no_call_mark s binary.Equal ts = refl
no_call_mark s binary.Unequal ts = refl
no_call_mark s binary.Less ts = refl
no_call_mark s binary.AtMost ts = refl
no_call_mark s binary.Greater ts = refl
no_call_mark s binary.AtLeast ts = refl
no_call_mark s binary.Shl ts = refl
no_call_mark s binary.Shr ts = refl
no_call_mark s binary.Add ts = refl
no_call_mark s binary.Sub ts = refl
no_call_mark s binary.Mul ts = refl
no_call_mark s binary.Div ts = refl
no_call_mark s binary.Rem ts = refl

pub is_no_call : (f : Form) (ts : List Token) → after word.LParen ts ≡ None → is_call (tokens f ts) ≡ false
is_no_call (Num s n) ts h = refl
is_no_call (Eof s) ts h = refl
is_no_call (Null s) ts h = refl
is_no_call (Named s x) ts h = ap is_there h
is_no_call (Index s x o f c) ts h = refl
is_no_call (Address s n x) ts h = refl
is_no_call (AddressAt s n x o f c) ts h = refl
is_no_call (Brackets o f c) ts h = refl
is_no_call (Sign s unary.Neg f) ts h = refl
is_no_call (Sign s unary.Not f) ts h = refl
is_no_call (Sign s unary.Inv f) ts h = refl
is_no_call (Sign s unary.Deref f) ts h = refl
is_no_call (Both f s op g) ts h = is_no_call f (the s (mark op) ∷ tokens g ts) (no_call_mark s op (tokens g ts))

-- ---- values

abbrev pub Within : ℕ → Form → Type 0
Within d f = IsWell f × (depth f ≤ d)

value_reads : (d : ℕ) → Reads tokens tree (Within d) (value d) push
value_reads d = record { grows = form_grows; read = λ f ts w e. value_read d f ts w.0 w.1 e }

pub values_read : (d : ℕ) (fs : Listed Form) (ts : List Token) → list.AreWell IsWell fs → list.depth depth fs ≤ d → Ends ts → after word.Comma ts ≡ None → values d (list.tokens tokens fs ts) ≡ Some (got (list.trees tree fs) ts)
values_read d fs ts w l e c =
    listed_read tokens tree (Within d) (value d) push (value_reads d) fs (length (list.tokens tokens fs ts)) [] ts (all_within IsWell depth d fs w l) (omega arith) e c
    ∙ ap (λ xs. Some (got xs ts)) (pushed [] (list.trees tree fs))

pub values_below_read : (d : ℕ) (fs : Listed Form) (ts : List Token) → list.AreWell IsWell fs → list.depth depth fs + 1 ≤ d → Ends ts → after word.Comma ts ≡ None → values_below d (list.tokens tokens fs ts) ≡ Some (got (list.trees tree fs) ts)
values_below_read zero fs ts w l e c = absurd (omega arith)
values_below_read (suc d) fs ts w l e c = values_read d fs ts w (omega arith) e c

pub ends_rparen : (s : Spot) (ts : List Token) → Ends (the s word.RParen ∷ ts)
ends_rparen s ts = record { no_operator = refl; no_index = refl; no_call = refl; no_equals = refl; no_name = refl }

pub ends_semi : (s : Spot) (ts : List Token) → Ends (the s word.Semi ∷ ts)
ends_semi s ts = record { no_operator = refl; no_index = refl; no_call = refl; no_equals = refl; no_name = refl }

list_front : (fs : Listed Form) (ts : List Token) → may_begin (front (list.tokens tokens fs ts)) ≡ true
list_front (list.Last f) ts = form_front f ts
list_front (list.Then f c fs) ts = form_front f (the c word.Comma ∷ list.tokens tokens fs ts)

arguments_read : (d : ℕ) (vs : Values) (c : Spot) (ts : List Token) → AreWell vs → values_depth vs ≤ d → arguments d (values_tokens vs (the c word.RParen ∷ ts)) ≡ Some (got (values_trees vs) ts)
arguments_read d None c ts w l = refl
arguments_read d (Some fs) c ts w l =
    ap (arguments_of d (list.tokens tokens fs (the c word.RParen ∷ ts))) (other_front word.RParen (list.tokens tokens fs (the c word.RParen ∷ ts)) refl (list_front fs (the c word.RParen ∷ ts)))
    ∙ ap (λ r. r >>= (λ v. after word.RParen v.rest >>= (λ us. Some (got v.value us)))) (values_below_read d fs (the c word.RParen ∷ ts) w l (ends_rparen c ts) refl)

-- ---- calls

-- what a spelling calls
abbrev pub called : CallForm → Called
called (Calls f o vs c) = called'.Answer (spelt.callee f) (values_trees vs)
called (Input s o c) = called'.Input

pub call_read : (d : ℕ) (f : CallForm) (ts : List Token) → IsWellCall f → call_depth f ≤ d → call d (call_tokens f ts) ≡ Some (got (called f) ts)
call_read d (Calls (Main s) o vs c) ts w l = ap (λ r. r >>= (λ v. Some (got (called'.Answer callee'.Main v.value) v.rest))) (arguments_read d vs c ts w l)
call_read d (Calls (spelt.Named s x) o vs c) ts w l = ap (λ r. r >>= (λ v. Some (got (called'.Answer (callee'.Name (name_at s x)) v.value) v.rest))) (arguments_read d vs c ts w l)
call_read d (Input s o c) ts w l = refl

pub call_is_call : (f : CallForm) (ts : List Token) → is_call (call_tokens f ts) ≡ true
call_is_call (Calls (Main s) o vs c) ts = refl
call_is_call (Calls (spelt.Named s x) o vs c) ts = refl
call_is_call (Input s o c) ts = refl

given_is : (f : CallForm) → given_by (called f) ≡ spelt.given (Answer f)
given_is (Calls f o vs c) = refl
given_is (Input s o c) = refl

pub stmt_is : (l : ℕ) (n : Option Name) (f : CallForm) → stmt_by l n (called f) ≡ call_stmt l n f
stmt_is l n (Calls f o vs c) = refl
stmt_is l n (Input s o c) = refl

pub given_read : (d : ℕ) (f : GivenForm) (ts : List Token) → IsWellGiven f → given_depth f ≤ d → Ends ts → given d (given_tokens f ts) ≡ Some (got (spelt.given f) ts)
given_read d (Value f) ts w l e =
    ap (given_of d (tokens f ts)) (is_no_call f ts e.no_call) ∙ ap (λ r. r >>= (λ x. Some (got (given'.Value x.value) x.rest))) (value_read d f ts w l e)
given_read d (Answer f) ts w l e =
    ap (given_of d (call_tokens f ts)) (call_is_call f ts)
    ∙ ap (λ r. r >>= (λ c. Some (got (given_by c.value) c.rest))) (call_read d f ts w l)
    ∙ ap (λ g. Some (got g ts)) (given_is f)

-- ---- what is read is spelled

pub record SpeltValues (d : ℕ) (ts : List Token) (x : Got (List Expr)) : Type 0 where
  pub forms : Listed Form
  pub well : list.AreWell IsWell forms
  pub within : list.depth depth forms ≤ d
  pub trees_are : list.trees tree forms ≡ x.value
  pub tokens_are : ts ≡ list.tokens tokens forms x.rest

value_item : (d : ℕ) (ts : List Token) (x : Got Expr) → value d ts ≡ Some x → Item tokens tree (Within d) ts x
value_item d ts x h = let s = value_sound d ts x h in record { form = s.form; well = (s.well, s.within); tree_is = s.tree_is; tokens_are = s.tokens_are }

values_sound : (d : ℕ) (ts : List Token) (x : Got (List Expr)) → values d ts ≡ Some x → SpeltValues d ts x
values_sound d ts x h =
    let s = listed_sound tokens tree (Within d) (value d) push (value_item d) (length ts) [] ts x h in
    let w = all_well IsWell depth d s.forms s.well in
    record { forms = s.forms; well = w.0; within = w.1; trees_are = sym (pushed [] (list.trees tree s.forms)) ∙ s.trees_are; tokens_are = s.tokens_are }

pub record SpeltBelow (d : ℕ) (ts : List Token) (x : Got (List Expr)) : Type 0 where
  pub forms : Listed Form
  pub well : list.AreWell IsWell forms
  pub within : list.depth depth forms + 1 ≤ d
  pub trees_are : list.trees tree forms ≡ x.value
  pub tokens_are : ts ≡ list.tokens tokens forms x.rest

pub values_below_sound : (d : ℕ) (ts : List Token) (x : Got (List Expr)) → values_below d ts ≡ Some x → SpeltBelow d ts x
values_below_sound zero ts x h = absurd cc
values_below_sound (suc d) ts x h =
    let s = values_sound d ts x h in
    record { forms = s.forms; well = s.well; within = omega (arith, s.within); trees_are = s.trees_are; tokens_are = s.tokens_are }

record SpeltArguments (d : ℕ) (ts : List Token) (x : Got (List Expr)) : Type 0 where
  values : Values
  closes : Spot
  well : AreWell values
  within : values_depth values ≤ d
  trees_are : values_trees values ≡ x.value
  tokens_are : ts ≡ values_tokens values (the closes word.RParen ∷ x.rest)

arguments_some : (d : ℕ) (ts : List Token) (x : Got (List Expr)) → (values_below d ts >>= (λ v. after word.RParen v.rest >>= (λ us. Some (got v.value us)))) ≡ Some x → SpeltArguments d ts x
arguments_some d ts x h =
    let a = bind_some (values_below d ts) (λ v. after word.RParen v.rest >>= (λ us. Some (got v.value us))) x h in
    let s = values_below_sound d ts a.0 a.1 in
    let b = bind_some (after word.RParen a.0.rest) (λ us. Some (got a.0.value us)) x a.2 in
    let r = after_is word.RParen a.0.rest b.0 b.1 in
    let e : got a.0.value b.0 ≡ x = cc (b.2) in
    subst (SpeltArguments d ts) e (record { values = Some s.forms; closes = r.0; well = s.well; within = s.within; trees_are = s.trees_are; tokens_are = s.tokens_are ∙ ap (list.tokens tokens s.forms) r.1 })

arguments_at : (d : ℕ) (ts : List Token) (o : Option (List Token)) (x : Got (List Expr)) → after word.RParen ts ≡ o → arguments_of d ts o ≡ Some x → SpeltArguments d ts x
arguments_at d ts None x a h = arguments_some d ts x h
arguments_at d ts (Some us) x a h =
    let r = after_is word.RParen ts us a in
    let e : got [] us ≡ x = cc (h) in
    subst (SpeltArguments d ts) e (record { values = None; closes = r.0; well = tt; within = omega arith; trees_are = refl; tokens_are = r.1 })

record SpeltCallee (ts : List Token) (x : Got Callee) : Type 0 where
  form : CalleeForm
  tree_is : spelt.callee form ≡ x.value
  tokens_are : ts ≡ callee_token form ∷ x.rest

callee_at : (ts : List Token) (o : Option (List Token)) (x : Got Callee) → after word.Main ts ≡ o → callee_of ts o ≡ Some x → SpeltCallee ts x
callee_at ts None x a h =
    let b = bind_some (name ts) (λ n. Some (got (callee'.Name n.value) n.rest)) x h in
    let n = name_is ts b.0 b.1 in
    let e : got (callee'.Name b.0.value) b.0.rest ≡ x = cc (b.2) in
    subst (SpeltCallee ts) e (record { form = spelt.Named n.spot n.text; tree_is = ap callee'.Name n.is; tokens_are = n.tokens_are })
callee_at ts (Some us) x a h =
    let r = after_is word.Main ts us a in
    let e : got callee'.Main us ≡ x = cc (h) in
    subst (SpeltCallee ts) e (record { form = Main r.0; tree_is = refl; tokens_are = r.1 })

pub record SpeltCall (d : ℕ) (ts : List Token) (x : Got Called) : Type 0 where
  pub form : CallForm
  pub well : IsWellCall form
  pub within : call_depth form ≤ d
  pub is : called form ≡ x.value
  pub tokens_are : ts ≡ call_tokens form x.rest

call_at : (d : ℕ) (ts : List Token) (o : Option (List Token)) (x : Got Called) → after word.Getchar ts ≡ o → call_of d ts o ≡ Some x → SpeltCall d ts x
call_at d ts None x a h =
    let b = bind_some (callee ts) (λ f. after word.LParen f.rest >>= (λ us. arguments d us >>= (λ v. Some (got (called'.Answer f.value v.value) v.rest)))) x h in
    let f = callee_at ts (after word.Main ts) b.0 refl b.1 in
    let p = bind_some (after word.LParen b.0.rest) (λ us. arguments d us >>= (λ v. Some (got (called'.Answer b.0.value v.value) v.rest))) x b.2 in
    let o = after_is word.LParen b.0.rest p.0 p.1 in
    let q = bind_some (arguments d p.0) (λ v. Some (got (called'.Answer b.0.value v.value) v.rest)) x p.2 in
    let s = arguments_at d p.0 (after word.RParen p.0) q.0 refl q.1 in
    let e : got (called'.Answer b.0.value q.0.value) q.0.rest ≡ x = cc (q.2) in
    subst (SpeltCall d ts) e (record {
      form = Calls f.form o.0 s.values s.closes;
      well = s.well;
      within = s.within;
      is = cc (f.tree_is, s.trees_are);
      tokens_are = f.tokens_are ∙ ap (λ v. callee_token f.form ∷ v) (o.1 ∙ ap (λ v. the o.0 word.LParen ∷ v) s.tokens_are);
    })
call_at d ts (Some us) x a h =
    let g = after_is word.Getchar ts us a in
    let p = bind_some (after word.LParen us) (λ vs. after word.RParen vs >>= (λ ws. Some (got called'.Input ws))) x h in
    let o = after_is word.LParen us p.0 p.1 in
    let q = bind_some (after word.RParen p.0) (λ ws. Some (got called'.Input ws)) x p.2 in
    let c = after_is word.RParen p.0 q.0 q.1 in
    let e : got called'.Input q.0 ≡ x = cc (q.2) in
    subst (SpeltCall d ts) e (record {
      form = Input g.0 o.0 c.0;
      well = tt;
      within = omega arith;
      is = refl;
      tokens_are = g.1 ∙ ap (λ v. the g.0 word.Getchar ∷ v) (o.1 ∙ ap (λ v. the o.0 word.LParen ∷ v) c.1);
    })

pub call_sound : (d : ℕ) (ts : List Token) (x : Got Called) → call d ts ≡ Some x → SpeltCall d ts x
call_sound d ts x h = call_at d ts (after word.Getchar ts) x refl h

pub record SpeltGiven (d : ℕ) (ts : List Token) (x : Got Given) : Type 0 where
  pub form : GivenForm
  pub well : IsWellGiven form
  pub within : given_depth form ≤ d
  pub is : spelt.given form ≡ x.value
  pub tokens_are : ts ≡ given_tokens form x.rest

given_at : (d : ℕ) (ts : List Token) (b : Bool) (x : Got Given) → given_of d ts b ≡ Some x → SpeltGiven d ts x
given_at d ts true x h =
    let a = bind_some (call d ts) (λ c. Some (got (given_by c.value) c.rest)) x h in
    let s = call_sound d ts a.0 a.1 in
    let e : got (given_by a.0.value) a.0.rest ≡ x = cc (a.2) in
    subst (SpeltGiven d ts) e (record { form = Answer s.form; well = s.well; within = s.within; is = sym (given_is s.form) ∙ ap given_by s.is; tokens_are = s.tokens_are })
given_at d ts false x h =
    let a = bind_some (value d ts) (λ y. Some (got (given'.Value y.value) y.rest)) x h in
    let s = value_sound d ts a.0 a.1 in
    let e : got (given'.Value a.0.value) a.0.rest ≡ x = cc (a.2) in
    subst (SpeltGiven d ts) e (record { form = Value s.form; well = s.well; within = s.within; is = ap given'.Value s.tree_is; tokens_are = s.tokens_are })

pub given_sound : (d : ℕ) (ts : List Token) (x : Got Given) → given d ts ≡ Some x → SpeltGiven d ts x
given_sound d ts x h = given_at d ts (is_call ts) x h
