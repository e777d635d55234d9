-- What is read is spelled, and what is spelled is read: functions, `main` and whole texts.
use Rattle.std.proofs.Common.{◌≡◌, ℕ, zero, suc, ◌<◌, ◌≤◌, List, [], ◌∷◌, ◌++◌, length, Option, Some, None, refl, sym, ap, ◌∙◌, subst, arith, append_assoc, append-nil, true, false, Bool}
use Rattle.c_tree.specs.declared.token.Token.{Token}
use Rattle.c_tree.specs.declared.token.Word.TheVariants as word
use Rattle.c_tree.specs.declared.tree.Binary.TheVariants as binary
use Rattle.c_tree.specs.declared.tree.Name.{Name}
use Rattle.c_tree.specs.declared.tree.Parameter.{Parameter}
use Rattle.c_tree.specs.declared.tree.Stmt.{Stmt}
use Rattle.c_tree.specs.declared.tree.Item.{Item as TreeItem}
use Rattle.c_tree.specs.declared.tree.Item.TheVariants as item'
use Rattle.c_tree.specs.Scan.{Spot}
use Rattle.c_tree.specs.Expressions.{the, a_name, name_at}
use Rattle.c_tree.specs.Listed.{Listed}
use Rattle.c_tree.specs.Listed as list
use Rattle.c_tree.specs.Statements.{StmtForms, star_tokens, is_pointer, trees, tokens_all, AreWell, depth_all, first_line}
use Rattle.c_tree.specs.Declarations.{BehindForm, Starts, Array, behind_tokens, DeclForm, Plain, Pointer, decl_tokens, ParameterForm, parameter_name, parameter_tokens, parameter_tree, named_tree, HeadForm, Nothing, Void, Parameters, head_tokens, head_trees, with_next, all_named}
use Rattle.c_tree.specs.Declarations.BehindForm.{Nothing as BehindNothing}
use Rattle.c_tree.specs.Programs.{ItemForm, Objects, Prototype, Function, Main, void_tokens, body_tokens, item_tokens, item_tree, IsWellItem, item_depth, tokens, items}
use Rattle.c_tree.specs.Programs as form
use Rattle.c_reader.specs.Reading.{Got, got, ◌>>=◌, after, name, is_name, operator}
use Rattle.c_reader.specs.ReadingCalls.{is_there}
use Rattle.c_reader.specs.ReadingStatements.{block, stmt_within}
use Rattle.c_reader.specs.ReadingItems.{objects, parameter_by, named_of, named, starred_of, parameter, add, parameters, heads_some, heads_of, heads, body, function_by, finished, callable, item_of, named_item, long_of, long_item, first_constants, past, main_head, main_item, item_at, item, file, program}
use Rattle.c_reader.proofs.TokenKinds.{after_is}
use Rattle.c_reader.proofs.Complete.{Ends}
use Rattle.c_reader.proofs.Sound.{bind_some, name_is}
use Rattle.c_reader.proofs.Listings.{Takes, Item, Reads, listed_read, listed_sound, gathered, all_grow}
use Rattle.c_reader.proofs.CallForms.{ends_rparen}
use Rattle.c_reader.proofs.LocalForms.{star_grows}
use Rattle.c_reader.proofs.StatementsGrow.{stmts_grow}
use Rattle.c_reader.proofs.StatementReads.{block_reads}
use Rattle.c_reader.proofs.StatementSound.{good_block}
use Rattle.c_reader.proofs.ObjectForms.{objects_read, objects_sound, decl_grows}

-- ---- parameters

named_read : (p : Bool) (n : Option (Spot × List ℕ)) (ts : List Token) → Ends ts → named p (parameter_name n ts) ≡ Some (got (named_tree p n) ts)
named_read p None ts e = ap (named_of p ts) e.no_name
named_read p (Some n) ts e = refl

star_operator : (ts us : List Token) (s : Spot) → ts ≡ the s word.Star ∷ us → operator ts ≡ Some binary.Mul
star_operator ts us s e = ap operator e

no_star_at : (ts : List Token) (o : Option (List Token)) → after word.Star ts ≡ o → operator ts ≡ None → after word.Star ts ≡ None
no_star_at ts None a n = a
no_star_at ts (Some us) a n =
    let s = after_is word.Star ts us a in
    let q : None ≡ Some binary.Mul = sym n ∙ star_operator ts us s.0 s.1 in absurd cc

no_star : (ts : List Token) → Ends ts → after word.Star ts ≡ None
no_star ts e = no_star_at ts (after word.Star ts) refl e.no_operator

starred_read : (s : Option Spot) (n : Option (Spot × List ℕ)) (ts : List Token) → Ends ts → starred_of (star_tokens s (parameter_name n ts)) (after word.Star (star_tokens s (parameter_name n ts))) ≡ Some (got (named_tree (is_pointer s) n) ts)
starred_read None None ts e = ap (starred_of ts) (no_star ts e) ∙ named_read false None ts e
starred_read None (Some n) ts e = named_read false (Some n) ts e
starred_read (Some s) n ts e = named_read true n ts e

parameter_read : (f : ParameterForm) (ts : List Token) → Ends ts → parameter (parameter_tokens f ts) ≡ Some (got (parameter_tree f) ts)
parameter_read f ts e = starred_read f.star f.named ts e

name_grows : (n : Option (Spot × List ℕ)) (ts : List Token) → length ts ≤ length (parameter_name n ts)
name_grows None ts = omega arith
name_grows (Some n) ts = omega arith

pub parameter_grows : (f : ParameterForm) (ts : List Token) → length ts < length (parameter_tokens f ts)
parameter_grows f ts = omega (arith, star_grows f.star (parameter_name f.named ts), name_grows f.named ts)

abbrev pub Any : ParameterForm → Type 0
Any f = Unit {0}

all_any : (fs : Listed ParameterForm) → list.AreWell Any fs
all_any (list.Last f) = tt
all_any (list.Then f c fs) = (tt, all_any fs)

parameter_reads : Reads parameter_tokens parameter_tree Any parameter add
parameter_reads = record { grows = parameter_grows; read = λ f ts w e. parameter_read f ts e }

-- parameters in front of others
abbrev pub before : List Parameter → Option (List Parameter) → Option (List Parameter)
before ps None = None
before ps (Some qs) = Some (ps ++ qs)

added_none : (qs : List (Option Parameter)) → gathered add None qs ≡ None
added_none [] = refl
added_none (q ∷ qs) = added_none qs

before_next : (ps : List Parameter) (p : Parameter) (o : Option (List Parameter)) → before (ps ++ p ∷ []) o ≡ before ps (with_next (Some p) o)
before_next ps p None = refl
before_next ps p (Some qs) = ap Some (append_assoc ps (p ∷ []) qs)

no_next : (o : Option (List Parameter)) → None ≡ with_next None o
no_next None = refl
no_next (Some qs) = refl

added : (ps : List Parameter) (qs : List (Option Parameter)) → gathered add (Some ps) qs ≡ before ps (all_named qs)
added ps [] = ap Some (sym (append-nil ps))
added ps (None ∷ qs) = added_none qs ∙ ap (before ps) (no_next (all_named qs))
added ps (Some p ∷ qs) = added (ps ++ p ∷ []) qs ∙ before_next ps p (all_named qs)

before_nothing : (o : Option (List Parameter)) → before [] o ≡ o
before_nothing None = refl
before_nothing (Some qs) = refl

pub all_added : (qs : List (Option Parameter)) → gathered add (Some []) qs ≡ all_named qs
all_added qs = added [] qs ∙ before_nothing (all_named qs)

parameters_read : (fs : Listed ParameterForm) (c : Spot) (ts : List Token) → parameters (list.tokens parameter_tokens fs (the c word.RParen ∷ ts)) ≡ Some (got (all_named (list.trees parameter_tree fs)) (the c word.RParen ∷ ts))
parameters_read fs c ts =
    let us = list.tokens parameter_tokens fs (the c word.RParen ∷ ts) in
    listed_read parameter_tokens parameter_tree Any parameter add parameter_reads fs (length us) (Some []) (the c word.RParen ∷ ts) (all_any fs) (omega arith) (ends_rparen c ts) refl
    ∙ ap (λ o. Some (got o (the c word.RParen ∷ ts))) (all_added (list.trees parameter_tree fs))

not_void : (fs : Listed ParameterForm) (ts : List Token) → after word.Void (list.tokens parameter_tokens fs ts) ≡ None
not_void (list.Last f) ts = refl
not_void (list.Then f c fs) ts = refl

not_closed : (fs : Listed ParameterForm) (ts : List Token) → after word.RParen (list.tokens parameter_tokens fs ts) ≡ None
not_closed (list.Last f) ts = refl
not_closed (list.Then f c fs) ts = refl

heads_read : (h : HeadForm) (c : Spot) (ts : List Token) → heads (head_tokens h (the c word.RParen ∷ ts)) ≡ Some (got (all_named (head_trees h)) (the c word.RParen ∷ ts))
heads_read Nothing c ts = refl
heads_read (Void s) c ts = refl
heads_read (Parameters fs) c ts =
    let us = list.tokens parameter_tokens fs (the c word.RParen ∷ ts) in
    ap (heads_of us) (not_void fs (the c word.RParen ∷ ts)) ∙ ap (λ o. heads_some us (is_there o)) (not_closed fs (the c word.RParen ∷ ts)) ∙ parameters_read fs c ts

-- ---- blocks of functions

body_read : (b : Spot) (fs : StmtForms) (e : Spot) (ts : List Token) → AreWell false fs → depth_all fs ≤ 100 → body (body_tokens b fs e ts) ≡ Some (got (trees fs) ts)
body_read b fs e ts w h = block_reads fs 100 false (length (tokens_all fs (the e word.RBrace ∷ ts))) [] e ts w h (omega arith)

-- ---- items

callable_prototype : (p : Bool) (n : Name) (h : HeadForm) (c e : Spot) (ts : List Token) → callable p n (head_tokens h (the c word.RParen ∷ the e word.Semi ∷ ts)) ≡ Some (got item'.Prototype ts)
callable_prototype p n h c e ts = ap (λ r. r >>= (λ h. after word.RParen h.rest >>= (λ us. finished p n h.value us (after word.Semi us)))) (heads_read h c (the e word.Semi ∷ ts))

callable_function : (p : Bool) (n : Name) (h : HeadForm) (ps : List Parameter) (c b : Spot) (fs : StmtForms) (e : Spot) (ts : List Token) → all_named (head_trees h) ≡ Some ps → AreWell false fs → depth_all fs ≤ 100
    → callable p n (head_tokens h (the c word.RParen ∷ body_tokens b fs e ts)) ≡ Some (got (function_by p n ps (trees fs)) ts)
callable_function p n h ps c b fs e ts a w d =
    let us = body_tokens b fs e ts in
    ap (λ r. r >>= (λ h. after word.RParen h.rest >>= (λ us. finished p n h.value us (after word.Semi us)))) (heads_read h c us)
    ∙ ap (λ o. finished p n o us None) a
    ∙ ap (λ r. r >>= (λ b. Some (got (function_by p n ps b.value) b.rest))) (body_read b fs e ts w d)

-- a name behind the star that may stand, before a bracket
named_callable : (l : ℕ) (p : Option Spot) (n : Spot) (x : List ℕ) (o : Spot) (ts : List Token) → long_item l (star_tokens p (a_name n x ∷ the o word.LParen ∷ ts)) ≡ callable (is_pointer p) (name_at n x) ts
named_callable l None n x o ts = refl
named_callable l (Some s) n x o ts = refl

behind_no_call : (f : BehindForm) (ts : List Token) → after word.LParen ts ≡ None → after word.LParen (behind_tokens f ts) ≡ None
behind_no_call BehindNothing ts h = h
behind_no_call (Starts e m f) ts h = refl
behind_no_call (Array o f c) ts h = refl

object_item : (l : ℕ) (f : DeclForm) (ts : List Token) → after word.LParen ts ≡ None → long_item l (decl_tokens f ts) ≡ objects l (decl_tokens f ts)
object_item l (Plain s x f) ts h = ap (item_of l (a_name s x ∷ behind_tokens f ts) false (name_at s x)) (behind_no_call f ts h)
object_item l (Pointer p s x) ts h = ap (item_of l (the p word.Star ∷ a_name s x ∷ ts) true (name_at s x)) h

main_head_read : (o : Spot) (v : Option Spot) (c : Spot) (ts : List Token) → main_head (the o word.LParen ∷ void_tokens v (the c word.RParen ∷ ts)) ≡ Some ts
main_head_read o None c ts = refl
main_head_read o (Some v) c ts = refl

-- declared names of the file are no function
objects_item : (l : ℕ) (fs : Listed DeclForm) (e : Spot) (ts : List Token) → long_item l (list.tokens decl_tokens fs (the e word.Semi ∷ ts)) ≡ objects l (list.tokens decl_tokens fs (the e word.Semi ∷ ts))
objects_item l (list.Last f) e ts = object_item l f (the e word.Semi ∷ ts) refl
objects_item l (list.Then f c fs) e ts = object_item l f (the c word.Comma ∷ list.tokens decl_tokens fs (the e word.Semi ∷ ts)) refl

pub item_read : (f : ItemForm) (ts : List Token) → IsWellItem f → item_depth f ≤ 100 → item (item_tokens f ts) ≡ Some (got (item_tree f) ts)
item_read (Objects l fs e) ts w d = objects_item l.line fs e ts ∙ objects_read l.line fs e ts
item_read (Prototype l p n x o h c e) ts w d = named_callable l.line p n x o (head_tokens h (the c word.RParen ∷ the e word.Semi ∷ ts)) ∙ callable_prototype (is_pointer p) (name_at n x) h c e ts
item_read (Function l p n x o h ps c b fs e) ts w d =
    named_callable l.line p n x o (head_tokens h (the c word.RParen ∷ body_tokens b fs e ts)) ∙ callable_function (is_pointer p) (name_at n x) h ps c b fs e ts w.0 w.1 d
item_read (Main i m o v c b fs e) ts w d =
    ap (λ r. r >>= (λ vs. body vs >>= (λ y. Some (got (item'.Main m.constants y.value) y.rest)))) (main_head_read o v c (body_tokens b fs e ts))
    ∙ ap (λ r. r >>= (λ y. Some (got (item'.Main m.constants y.value) y.rest))) (body_read b fs e ts w d)

head_grows : (h : HeadForm) (ts : List Token) → length ts ≤ length (head_tokens h ts)
head_grows Nothing ts = omega arith
head_grows (Void s) ts = omega arith
head_grows (Parameters fs) ts = omega (arith, all_grow parameter_tokens parameter_grows fs ts)

body_grows : (b : Spot) (fs : StmtForms) (e : Spot) (ts : List Token) → length ts < length (body_tokens b fs e ts)
body_grows b fs e ts = omega (arith, stmts_grow fs (the e word.RBrace ∷ ts))

void_grows : (v : Option Spot) (ts : List Token) → length ts ≤ length (void_tokens v ts)
void_grows None ts = omega arith
void_grows (Some s) ts = omega arith

pub item_grows : (f : ItemForm) (ts : List Token) → length ts < length (item_tokens f ts)
item_grows (Objects l fs e) ts = omega (arith, all_grow decl_tokens decl_grows fs (the e word.Semi ∷ ts))
item_grows (Prototype l p n x o h c e) ts =
    let a = head_grows h (the c word.RParen ∷ the e word.Semi ∷ ts) in
    let b = star_grows p (a_name n x ∷ the o word.LParen ∷ head_tokens h (the c word.RParen ∷ the e word.Semi ∷ ts)) in
    omega (arith, a, b)
item_grows (Function l p n x o h ps c b fs e) ts =
    let k = body_grows b fs e ts in
    let a = head_grows h (the c word.RParen ∷ body_tokens b fs e ts) in
    let q = star_grows p (a_name n x ∷ the o word.LParen ∷ head_tokens h (the c word.RParen ∷ body_tokens b fs e ts)) in
    omega (arith, k, a, q)
item_grows (Main i m o v c b fs e) ts =
    let k = body_grows b fs e ts in
    let a = void_grows v (the c word.RParen ∷ body_tokens b fs e ts) in
    omega (arith, k, a)

file_item : (f : ItemForm) (n : ℕ) (xs : List TreeItem) (ts us : List Token) (x : TreeItem) → 0 < length ts → item ts ≡ Some (got x us) → file (suc n) xs ts ≡ file n (xs ++ x ∷ []) us
file_item f n xs [] us x l h = absurd (omega arith)
file_item f n xs (t ∷ ts) us x l h = ap (λ r. r >>= (λ i. file n (xs ++ i.value ∷ []) i.rest)) h

file_end : (n : ℕ) (xs : List TreeItem) → file n xs [] ≡ Some xs
file_end zero xs = refl
file_end (suc n) xs = refl

file_read : (fs : List ItemForm) (n : ℕ) (xs : List TreeItem) → form.AreWell 100 fs → length (tokens fs) ≤ n → file n xs (tokens fs) ≡ Some (xs ++ items fs)
file_read [] n xs w l = file_end n xs ∙ ap Some (sym (append-nil xs))
file_read (f ∷ fs) zero xs w l = absurd (omega (arith, item_grows f (tokens fs)))
file_read (f ∷ fs) (suc n) xs w l =
    file_item f n xs (item_tokens f (tokens fs)) (tokens fs) (item_tree f) (omega (arith, item_grows f (tokens fs))) (item_read f (tokens fs) w.0 w.1)
    ∙ file_read fs n (xs ++ item_tree f ∷ []) w.2 (omega (arith, l, item_grows f (tokens fs)))
    ∙ ap Some (append_assoc xs (item_tree f ∷ []) (items fs))

-- what is spelled within the depth is read
pub program_reads : (xs : List TreeItem) (ts : List Token) → form.Spells 100 xs ts → program ts ≡ Some xs
program_reads xs ts s = ap program (sym s.3) ∙ file_read s.0 (length (tokens s.0)) [] s.1 (omega arith) ∙ ap Some s.2

-- ---- what is read is spelled

record SpeltNamed (p : Bool) (ts : List Token) (x : Got (Option Parameter)) : Type 0 where
  named : Option (Spot × List ℕ)
  tree_is : named_tree p named ≡ x.value
  tokens_are : ts ≡ parameter_name named x.rest

named_sound : (p : Bool) (ts : List Token) (b : Bool) (x : Got (Option Parameter)) → named_of p ts b ≡ Some x → SpeltNamed p ts x
named_sound p ts true x h =
    let a = bind_some (name ts) (λ n. Some (got (Some (parameter_by p n.value)) n.rest)) x h in
    let n = name_is ts a.0 a.1 in
    let e : got (Some (parameter_by p a.0.value)) a.0.rest ≡ x = cc (a.2) in
    subst (SpeltNamed p ts) e (record { named = Some (n.spot, n.text); tree_is = ap (λ m. Some (parameter_by p m)) n.is; tokens_are = n.tokens_are })
named_sound p ts false x h =
    let e : got None ts ≡ x = cc (h) in
    subst (SpeltNamed p ts) e (record { named = None; tree_is = refl; tokens_are = refl })

parameter_is : (l : Spot) (s : Option Spot) (ts us vs : List Token) (x : Got (Option Parameter)) → ts ≡ the l word.Long ∷ us → us ≡ star_tokens s vs → SpeltNamed (is_pointer s) vs x → Item parameter_tokens parameter_tree Any ts x
parameter_is l s ts us vs x a b n =
    record { form = record { long = l; star = s; named = n.named }; well = tt; tree_is = n.tree_is; tokens_are = a ∙ ap (λ v. the l word.Long ∷ v) (b ∙ ap (star_tokens s) n.tokens_are) }

starred_sound : (l : Spot) (ts us : List Token) (o : Option (List Token)) (x : Got (Option Parameter)) → ts ≡ the l word.Long ∷ us → after word.Star us ≡ o → starred_of us o ≡ Some x → Item parameter_tokens parameter_tree Any ts x
starred_sound l ts us None x a o h = parameter_is l None ts us us x a refl (named_sound false us (is_name us) x h)
starred_sound l ts us (Some vs) x a o h = let s = after_is word.Star us vs o in parameter_is l (Some s.0) ts us vs x a s.1 (named_sound true vs (is_name vs) x h)

parameter_item : (ts : List Token) (x : Got (Option Parameter)) → parameter ts ≡ Some x → Item parameter_tokens parameter_tree Any ts x
parameter_item ts x h =
    let a = bind_some (after word.Long ts) (λ us. starred_of us (after word.Star us)) x h in
    let l = after_is word.Long ts a.0 a.1 in
    starred_sound l.0 ts a.0 (after word.Star a.0) x l.1 refl a.2

pub parameter_takes : Takes parameter
parameter_takes ts x h = let s = parameter_item ts x h in omega (arith, ap length s.tokens_are, parameter_grows s.form x.rest)

record SpeltHeads (ts : List Token) (x : Got (Option (List Parameter))) : Type 0 where
  form : HeadForm
  tree_is : all_named (head_trees form) ≡ x.value
  tokens_are : ts ≡ head_tokens form x.rest

heads_some_sound : (ts : List Token) (b : Bool) (x : Got (Option (List Parameter))) → heads_some ts b ≡ Some x → SpeltHeads ts x
heads_some_sound ts true x h =
    let e : got (Some []) ts ≡ x = cc (h) in
    subst (SpeltHeads ts) e (record { form = Nothing; tree_is = refl; tokens_are = refl })
heads_some_sound ts false x h =
    let s = listed_sound parameter_tokens parameter_tree Any parameter add parameter_item (length ts) (Some []) ts x h in
    record { form = Parameters s.forms; tree_is = sym (all_added (list.trees parameter_tree s.forms)) ∙ s.trees_are; tokens_are = s.tokens_are }

heads_sound : (ts : List Token) (o : Option (List Token)) (x : Got (Option (List Parameter))) → after word.Void ts ≡ o → heads_of ts o ≡ Some x → SpeltHeads ts x
heads_sound ts (Some us) x a h =
    let v = after_is word.Void ts us a in
    let e : got (Some []) us ≡ x = cc (h) in
    subst (SpeltHeads ts) e (record { form = Void v.0; tree_is = refl; tokens_are = v.1 })
heads_sound ts None x a h = heads_some_sound ts (is_there (after word.RParen ts)) x h

record SpeltBody (ts : List Token) (x : Got (List Stmt)) : Type 0 where
  begins : Spot
  forms : StmtForms
  finishes : Spot
  well : AreWell false forms
  within : depth_all forms ≤ 100
  trees_are : trees forms ≡ x.value
  tokens_are : ts ≡ body_tokens begins forms finishes x.rest

body_sound : (ts : List Token) (x : Got (List Stmt)) → body ts ≡ Some x → SpeltBody ts x
body_sound ts x h =
    let a = bind_some (after word.LBrace ts) (λ us. block 100 (stmt_within 100) false (length us) [] us) x h in
    let b = after_is word.LBrace ts a.0 a.1 in
    let s = good_block 100 false (length a.0) a.0 x a.2 in
    record { begins = b.0; forms = s.forms; finishes = s.closes; well = s.well; within = s.within; trees_are = s.trees_are; tokens_are = b.1 ∙ ap (λ v. the b.0 word.LBrace ∷ v) s.tokens_are }

pub record SpeltItem (ts : List Token) (x : Got TreeItem) : Type 0 where
  pub form : ItemForm
  pub well : IsWellItem form
  pub within : item_depth form ≤ 100
  pub tree_is : item_tree form ≡ x.value
  pub tokens_are : ts ≡ item_tokens form x.rest

-- the part of an item in front of its head
record Front (l : Spot) (p : Option Spot) (n : Spot) (t : List ℕ) (o : Spot) (ts us : List Token) : Type 0 where
  is : ts ≡ the l word.Long ∷ star_tokens p (a_name n t ∷ the o word.LParen ∷ us)

module _ (l : Spot) (p : Option Spot) (n : Spot) (t : List ℕ) (o : Spot) (ts us : List Token) (f : Front l p n t o ts us) where
  prototype_is : (h : Got (Option (List Parameter))) (c : Spot) (vs : List Token) (e : Spot) (ws : List Token) → SpeltHeads us h → h.rest ≡ the c word.RParen ∷ vs → vs ≡ the e word.Semi ∷ ws → SpeltItem ts (got item'.Prototype ws)
  prototype_is h c vs e ws s a b =
      record {
        form = Prototype l p n t o s.form c e;
        well = tt;
        within = omega arith;
        tree_is = refl;
        tokens_are = f.is ∙ ap (λ v. the l word.Long ∷ star_tokens p (a_name n t ∷ the o word.LParen ∷ v)) (s.tokens_are ∙ ap (head_tokens s.form) (a ∙ ap (λ v. the c word.RParen ∷ v) b));
      }

  function_is : (h : Got (Option (List Parameter))) (c : Spot) (vs : List Token) (ps : List Parameter) (b : Got (List Stmt)) → SpeltHeads us h → h.rest ≡ the c word.RParen ∷ vs → h.value ≡ Some ps → SpeltBody vs b → SpeltItem ts (got (function_by (is_pointer p) (name_at n t) ps b.value) b.rest)
  function_is h c vs ps b s a e k =
      record {
        form = Function l p n t o s.form ps c k.begins k.forms k.finishes;
        well = (s.tree_is ∙ e, k.well);
        within = k.within;
        tree_is = ap (function_by (is_pointer p) (name_at n t) ps) k.trees_are;
        tokens_are = f.is ∙ ap (λ v. the l word.Long ∷ star_tokens p (a_name n t ∷ the o word.LParen ∷ v)) (s.tokens_are ∙ ap (head_tokens s.form) (a ∙ ap (λ v. the c word.RParen ∷ v) k.tokens_are));
      }

  finished_sound : (h : Got (Option (List Parameter))) (c : Spot) (vs : List Token) (q : Option (List Token)) (x : Got TreeItem) → SpeltHeads us h → h.rest ≡ the c word.RParen ∷ vs → after word.Semi vs ≡ q → finished (is_pointer p) (name_at n t) h.value vs q ≡ Some x → SpeltItem ts x
  finished_sound h c vs (Some ws) x s a e k =
      let r = after_is word.Semi vs ws e in
      let y : got item'.Prototype ws ≡ x = cc (k) in
      subst (SpeltItem ts) y (prototype_is h c vs r.0 ws s a r.1)
  finished_sound h c vs None x s a e k =
      let q = bind_some h.value (λ qs. body vs >>= (λ b. Some (got (function_by (is_pointer p) (name_at n t) qs b.value) b.rest))) x k in
      let b = bind_some (body vs) (λ b. Some (got (function_by (is_pointer p) (name_at n t) q.0 b.value) b.rest)) x q.2 in
      let y : got (function_by (is_pointer p) (name_at n t) q.0 b.0.value) b.0.rest ≡ x = cc (b.2) in
      subst (SpeltItem ts) y (function_is h c vs q.0 b.0 s a q.1 (body_sound vs b.0 b.1))

  callable_sound : (x : Got TreeItem) → callable (is_pointer p) (name_at n t) us ≡ Some x → SpeltItem ts x
  callable_sound x k =
      let a = bind_some (heads us) (λ h. after word.RParen h.rest >>= (λ us. finished (is_pointer p) (name_at n t) h.value us (after word.Semi us))) x k in
      let s = heads_sound us (after word.Void us) a.0 refl a.1 in
      let b = bind_some (after word.RParen a.0.rest) (λ us. finished (is_pointer p) (name_at n t) a.0.value us (after word.Semi us)) x a.2 in
      let c = after_is word.RParen a.0.rest b.0 b.1 in
      finished_sound a.0 c.0 b.0 (after word.Semi b.0) x s c.1 refl b.2

-- the tokens in front of a head
front_is : (l : Spot) (p : Option Spot) (n : Spot) (t : List ℕ) (o : Spot) (ts us vs ws zs : List Token) → ts ≡ the l word.Long ∷ us → us ≡ star_tokens p vs → vs ≡ a_name n t ∷ ws → ws ≡ the o word.LParen ∷ zs → Front l p n t o ts zs
front_is l p n t o ts us vs ws zs a b c e = record { is = a ∙ ap (λ v. the l word.Long ∷ v) (b ∙ ap (star_tokens p) (c ∙ ap (λ v. a_name n t ∷ v) e)) }

objects_is : (l : Spot) (ts us : List Token) (x : Got TreeItem) → ts ≡ the l word.Long ∷ us → objects l.line us ≡ Some x → SpeltItem ts x
objects_is l ts us x a h =
    let s = objects_sound l.line us x h in
    record { form = Objects l s.forms s.ends; well = tt; within = omega arith; tree_is = s.tree_is; tokens_are = a ∙ ap (λ v. the l word.Long ∷ v) s.tokens_are }

item_of_sound : (l : Spot) (p : Option Spot) (n : Spot) (t : List ℕ) (ts us vs ws : List Token) (q : Option (List Token)) (x : Got TreeItem) → ts ≡ the l word.Long ∷ us → us ≡ star_tokens p vs → vs ≡ a_name n t ∷ ws → after word.LParen ws ≡ q
    → item_of l.line us (is_pointer p) (name_at n t) q ≡ Some x → SpeltItem ts x
item_of_sound l p n t ts us vs ws None x a b c e h = objects_is l ts us x a h
item_of_sound l p n t ts us vs ws (Some zs) x a b c e h =
    let o = after_is word.LParen ws zs e in
    callable_sound l p n t o.0 ts zs (front_is l p n t o.0 ts us vs ws zs a b c o.1) x h

named_item_sound : (l : Spot) (p : Option Spot) (ts us vs : List Token) (x : Got TreeItem) → ts ≡ the l word.Long ∷ us → us ≡ star_tokens p vs → named_item l.line us (is_pointer p) vs ≡ Some x → SpeltItem ts x
named_item_sound l p ts us vs x a b h =
    let c = bind_some (name vs) (λ n. item_of l.line us (is_pointer p) n.value (after word.LParen n.rest)) x h in
    let n = name_is vs c.0 c.1 in
    item_of_sound l p n.spot n.text ts us vs c.0.rest (after word.LParen c.0.rest) x a b n.tokens_are refl (subst (λ m. item_of l.line us (is_pointer p) m (after word.LParen c.0.rest) ≡ Some x) (sym n.is) c.2)

long_sound : (l : Spot) (ts us : List Token) (q : Option (List Token)) (x : Got TreeItem) → ts ≡ the l word.Long ∷ us → after word.Star us ≡ q → long_of l.line us q ≡ Some x → SpeltItem ts x
long_sound l ts us None x a e h = named_item_sound l None ts us us x a refl h
long_sound l ts us (Some vs) x a e h = let s = after_is word.Star us vs e in named_item_sound l (Some s.0) ts us vs x a s.1 h

-- `void` is passed where it stands
record Past (ts us : List Token) : Type 0 where
  void : Option Spot
  is : ts ≡ void_tokens void us

past_of : (ts : List Token) (o : Option (List Token)) → after word.Void ts ≡ o → Past ts (past ts o)
past_of ts None a = record { void = None; is = refl }
past_of ts (Some us) a = let r = after_is word.Void ts us a in record { void = Some r.0; is = r.1 }

main_is : (i m o : Spot) (ts us vs ws xs zs : List Token) (c : Spot) (b : Got (List Stmt)) → ts ≡ the i word.Int ∷ us → us ≡ the m word.Main ∷ vs → vs ≡ the o word.LParen ∷ ws → Past ws xs → xs ≡ the c word.RParen ∷ zs → SpeltBody zs b → SpeltItem ts (got (item'.Main (first_constants us) b.value) b.rest)
main_is i m o ts us vs ws xs zs c b p q r v e k =
    let n : m.constants ≡ first_constants us = sym (ap first_constants q) in
    record {
      form = Main i m o v.void c k.begins k.forms k.finishes;
      well = k.well;
      within = k.within;
      tree_is = ap (λ z. item'.Main z (trees k.forms)) n ∙ ap (item'.Main (first_constants us)) k.trees_are;
      tokens_are = p ∙ ap (λ z. the i word.Int ∷ z) (q ∙ ap (λ z. the m word.Main ∷ z) (r ∙ ap (λ z. the o word.LParen ∷ z) (v.is ∙ ap (void_tokens v.void) (e ∙ ap (λ z. the c word.RParen ∷ z) k.tokens_are))));
    }

main_sound : (i : Spot) (ts us : List Token) (x : Got TreeItem) → ts ≡ the i word.Int ∷ us → main_item us ≡ Some x → SpeltItem ts x
main_sound i ts us x p h =
    let a = bind_some (after word.Main us) (λ vs. main_head vs >>= (λ ws. body ws >>= (λ b. Some (got (item'.Main (first_constants us) b.value) b.rest)))) x h in
    let m = after_is word.Main us a.0 a.1 in
    let b = bind_some (main_head a.0) (λ ws. body ws >>= (λ b. Some (got (item'.Main (first_constants us) b.value) b.rest))) x a.2 in
    let c = bind_some (after word.LParen a.0) (λ ws. after word.RParen (past ws (after word.Void ws))) b.0 b.1 in
    let o = after_is word.LParen a.0 c.0 c.1 in
    let r = after_is word.RParen (past c.0 (after word.Void c.0)) b.0 c.2 in
    let k = bind_some (body b.0) (λ b. Some (got (item'.Main (first_constants us) b.value) b.rest)) x b.2 in
    let y : got (item'.Main (first_constants us) k.0.value) k.0.rest ≡ x = cc (k.2) in
    subst (SpeltItem ts) y (main_is i m.0 o.0 ts us a.0 c.0 (past c.0 (after word.Void c.0)) b.0 r.0 k.0 p m.1 o.1 (past_of c.0 (after word.Void c.0) refl) r.1 (body_sound b.0 k.0 k.1))

item_sound_at : (ts : List Token) (o : Option (List Token)) (x : Got TreeItem) → after word.Long ts ≡ o → item_at ts o ≡ Some x → SpeltItem ts x
item_sound_at ts (Some us) x a h =
    let l = after_is word.Long ts us a in
    long_sound l.0 ts us (after word.Star us) x l.1 refl (subst (λ n. long_item n us ≡ Some x) (ap first_line l.1) h)
item_sound_at ts None x a h =
    let b = bind_some (after word.Int ts) main_item x h in
    let i = after_is word.Int ts b.0 b.1 in
    main_sound i.0 ts b.0 x i.1 b.2

pub item_sound : (ts : List Token) (x : Got TreeItem) → item ts ≡ Some x → SpeltItem ts x
item_sound ts x h = item_sound_at ts (after word.Long ts) x refl h

pub item_takes : (ts : List Token) (x : Got TreeItem) → item ts ≡ Some x → length x.rest < length ts
item_takes ts x h = let s = item_sound ts x h in omega (arith, ap length s.tokens_are, item_grows s.form x.rest)

-- the rest of a file, after xs
record Rest (xs : List TreeItem) (ts : List Token) (ys : List TreeItem) : Type 0 where
  forms : List ItemForm
  well : form.AreWell 100 forms
  trees_are : xs ++ items forms ≡ ys
  tokens_are : tokens forms ≡ ts

rest_more : (xs : List TreeItem) (ts : List Token) (x : Got TreeItem) (ys : List TreeItem) → SpeltItem ts x → Rest (xs ++ x.value ∷ []) x.rest ys → Rest xs ts ys
rest_more xs ts x ys s r =
    record {
      forms = s.form ∷ r.forms;
      well = (s.well, s.within, r.well);
      trees_are = ap (λ v. xs ++ v ∷ items r.forms) s.tree_is ∙ sym (append_assoc xs (x.value ∷ []) (items r.forms)) ∙ r.trees_are;
      tokens_are = ap (item_tokens s.form) r.tokens_are ∙ sym s.tokens_are;
    }

file_sound : (n : ℕ) (xs : List TreeItem) (ts : List Token) (ys : List TreeItem) → file n xs ts ≡ Some ys → Rest xs ts ys
file_sound n xs [] ys h = let e : xs ≡ ys = cc (sym (file_end n xs) ∙ h) in subst (Rest xs []) e (record { forms = []; well = tt; trees_are = append-nil xs; tokens_are = refl })
file_sound zero xs (t ∷ ts) ys h = absurd cc
file_sound (suc n) xs (t ∷ ts) ys h =
    let a = bind_some (item (t ∷ ts)) (λ i. file n (xs ++ i.value ∷ []) i.rest) ys h in
    rest_more xs (t ∷ ts) a.0 ys (item_sound (t ∷ ts) a.0 a.1) (file_sound n (xs ++ a.0.value ∷ []) a.0.rest ys a.2)

-- what is read is spelled within the depth
pub program_sound : (ts : List Token) (xs : List TreeItem) → program ts ≡ Some xs → form.Spells 100 xs ts
program_sound ts xs h = let r = file_sound (length ts) [] ts xs h in (r.forms, r.well, r.trees_are, r.tokens_are)
