-- What is read is spelled, and what is spelled is read: the declarations of a block.
use Rattle.std.proofs.Common.{◌≡◌, ℕ, zero, suc, ◌+◌, ◌<◌, ◌≤◌, List, [], ◌∷◌, length, Option, Some, None, refl, sym, ap, ◌∙◌, subst, arith, true, false, Bool}
use Rattle.c_tree.specs.declared.token.Token.{Token}
use Rattle.c_tree.specs.declared.token.Word.TheVariants as word
use Rattle.c_tree.specs.declared.tree.Name.{Name}
use Rattle.c_tree.specs.declared.tree.LocalDecl.{LocalDecl}
use Rattle.c_tree.specs.declared.tree.Stmt.{Stmt}
use Rattle.c_tree.specs.declared.tree.Stmt.TheVariants as stmt'
use Rattle.c_tree.specs.Scan.{Spot}
use Rattle.c_tree.specs.Expressions.{the, a_name, name_at}
use Rattle.c_tree.specs.Expressions as expr'
use Rattle.c_tree.specs.Listed.{Listed}
use Rattle.c_tree.specs.Listed as list
use Rattle.c_tree.specs.Calls.{GivenForm, Value, Answer, Calls, Input, Values, values_tokens, CallForm, call_tokens, given_tokens}
use Rattle.c_tree.specs.Statements.{LocalForm, star_tokens, is_pointer, initial_tokens, initial, IsWellInitial, initial_depth, local_tokens, local_tree, IsWellLocal, local_depth}
use Rattle.c_reader.specs.Reading.{Got, got, ◌>>=◌, after, name}
use Rattle.c_reader.specs.Listing.{listing, push}
use Rattle.c_reader.specs.ReadingCalls.{given}
use Rattle.c_reader.specs.ReadingStatements.{local_decl, local_given, local_named, local_of, local, declaration, declaration_below}
use Rattle.c_reader.proofs.TokenKinds.{after_is}
use Rattle.c_reader.proofs.Complete.{Ends}
use Rattle.c_reader.proofs.Sound.{bind_some, name_is}
use Rattle.c_reader.proofs.Listings.{Takes, Item, Reads, listed_read, listed_sound, pushed, all_within, all_well, all_grow}
use Rattle.c_reader.proofs.Takes.{form_grows}
use Rattle.c_reader.proofs.CallForms.{given_read, given_sound, ends_semi}

-- ---- what is spelled is read

initial_read : (d : ℕ) (p : Bool) (n : Name) (g : Option (Spot × GivenForm)) (ts : List Token) → IsWellInitial g → initial_depth g ≤ d → Ends ts → local_given d p n (initial_tokens g ts) (after word.Assign (initial_tokens g ts)) ≡ Some (got (local_decl p n (initial g)) ts)
initial_read d p n None ts w l e = ap (local_given d p n ts) e.no_equals
initial_read d p n (Some g) ts w l e = ap (λ r. r >>= (λ g. Some (got (local_decl p n (Some g.value)) g.rest))) (given_read d g.1 ts w l e)

local_at : (d : ℕ) (s : Option Spot) (n : Spot) (x : List ℕ) (g : Option (Spot × GivenForm)) (ts : List Token) → IsWellInitial g → initial_depth g ≤ d → Ends ts → local d (star_tokens s (a_name n x ∷ initial_tokens g ts)) ≡ Some (got (local_decl (is_pointer s) (name_at n x) (initial g)) ts)
local_at d None n x g ts w l e = initial_read d false (name_at n x) g ts w l e
local_at d (Some s) n x g ts w l e = initial_read d true (name_at n x) g ts w l e

pub local_read : (d : ℕ) (f : LocalForm) (ts : List Token) → IsWellLocal f → local_depth f ≤ d → Ends ts → local d (local_tokens f ts) ≡ Some (got (local_tree f) ts)
local_read d f ts w l e = local_at d f.star f.named f.text f.given ts w l e

values_grow : (vs : Values) (ts : List Token) → length ts ≤ length (values_tokens vs ts)
values_grow None ts = omega arith
values_grow (Some fs) ts = omega (arith, all_grow expr'.tokens form_grows fs ts)

pub call_grows : (f : CallForm) (ts : List Token) → length ts < length (call_tokens f ts)
call_grows (Calls f o vs c) ts = omega (arith, values_grow vs (the c word.RParen ∷ ts))
call_grows (Input s o c) ts = omega arith

pub given_grows : (f : GivenForm) (ts : List Token) → length ts < length (given_tokens f ts)
given_grows (Value f) ts = form_grows f ts
given_grows (Answer f) ts = call_grows f ts

initial_grows : (g : Option (Spot × GivenForm)) (ts : List Token) → length ts ≤ length (initial_tokens g ts)
initial_grows None ts = omega arith
initial_grows (Some g) ts = omega (arith, given_grows g.1 ts)

pub star_grows : (s : Option Spot) (ts : List Token) → length ts ≤ length (star_tokens s ts)
star_grows None ts = omega arith
star_grows (Some s) ts = omega arith

pub local_grows : (f : LocalForm) (ts : List Token) → length ts < length (local_tokens f ts)
local_grows f ts = omega (arith, initial_grows f.given ts, star_grows f.star (a_name f.named f.text ∷ initial_tokens f.given ts))

abbrev pub Within : ℕ → LocalForm → Type 0
Within d f = IsWellLocal f × (local_depth f ≤ d)

local_reads : (d : ℕ) → Reads local_tokens local_tree (Within d) (local d) push
local_reads d = record { grows = local_grows; read = λ f ts w e. local_read d f ts w.0 w.1 e }

locals_read : (d : ℕ) (fs : Listed LocalForm) (ts : List Token) → list.AreWell IsWellLocal fs → list.depth local_depth fs ≤ d → Ends ts → after word.Comma ts ≡ None → listing (local d) (list.tokens local_tokens fs ts) ≡ Some (got (list.trees local_tree fs) ts)
locals_read d fs ts w l e c =
    listed_read local_tokens local_tree (Within d) (local d) push (local_reads d) fs (length (list.tokens local_tokens fs ts)) [] ts (all_within IsWellLocal local_depth d fs w l) (omega arith) e c
    ∙ ap (λ xs. Some (got xs ts)) (pushed [] (list.trees local_tree fs))

declaration_read : (d l : ℕ) (fs : Listed LocalForm) (e : Spot) (ts : List Token) → list.AreWell IsWellLocal fs → list.depth local_depth fs ≤ d → declaration d l (list.tokens local_tokens fs (the e word.Semi ∷ ts)) ≡ Some (got (stmt'.Declare l (list.trees local_tree fs)) ts)
declaration_read d l fs e ts w h =
    ap (λ r. r >>= (λ ds. after word.Semi ds.rest >>= (λ us. Some (got (stmt'.Declare l ds.value) us)))) (locals_read d fs (the e word.Semi ∷ ts) w h (ends_semi e ts) refl)

pub declaration_below_read : (d l : ℕ) (fs : Listed LocalForm) (e : Spot) (ts : List Token) → list.AreWell IsWellLocal fs → list.depth local_depth fs + 1 ≤ d → declaration_below d l (list.tokens local_tokens fs (the e word.Semi ∷ ts)) ≡ Some (got (stmt'.Declare l (list.trees local_tree fs)) ts)
declaration_below_read zero l fs e ts w h = absurd (omega arith)
declaration_below_read (suc d) l fs e ts w h = declaration_read d l fs e ts w (omega arith)

-- ---- what is read is spelled

record SpeltGivenName (d : ℕ) (p : Bool) (ts : List Token) (x : Got LocalDecl) : Type 0 where
  named : Spot
  text : List ℕ
  given : Option (Spot × GivenForm)
  well : IsWellInitial given
  within : initial_depth given ≤ d
  tree_is : local_decl p (name_at named text) (initial given) ≡ x.value
  tokens_are : ts ≡ a_name named text ∷ initial_tokens given x.rest

given_name : (d : ℕ) (p : Bool) (s : Spot) (t : List ℕ) (ts : List Token) (o : Option (List Token)) (x : Got LocalDecl) → after word.Assign ts ≡ o → local_given d p (name_at s t) ts o ≡ Some x → SpeltGivenName d p (a_name s t ∷ ts) x
given_name d p s t ts None x a h =
    let e : got (local_decl p (name_at s t) None) ts ≡ x = cc (h) in
    subst (SpeltGivenName d p (a_name s t ∷ ts)) e (record { named = s; text = t; given = None; well = tt; within = omega arith; tree_is = refl; tokens_are = refl })
given_name d p s t ts (Some us) x a h =
    let r = after_is word.Assign ts us a in
    let b = bind_some (given d us) (λ g. Some (got (local_decl p (name_at s t) (Some g.value)) g.rest)) x h in
    let v = given_sound d us b.0 b.1 in
    let e : got (local_decl p (name_at s t) (Some b.0.value)) b.0.rest ≡ x = cc (b.2) in
    subst (SpeltGivenName d p (a_name s t ∷ ts)) e (record {
      named = s;
      text = t;
      given = Some (r.0, v.form);
      well = v.well;
      within = v.within;
      tree_is = ap (λ y. local_decl p (name_at s t) (Some y)) v.is;
      tokens_are = ap (λ w. a_name s t ∷ w) (r.1 ∙ ap (λ w. the r.0 word.Assign ∷ w) v.tokens_are);
    })

local_named_sound : (d : ℕ) (p : Bool) (ts : List Token) (x : Got LocalDecl) → local_named d p ts ≡ Some x → SpeltGivenName d p ts x
local_named_sound d p ts x h =
    let b = bind_some (name ts) (λ n. local_given d p n.value n.rest (after word.Assign n.rest)) x h in
    let n = name_is ts b.0 b.1 in
    subst (λ us. SpeltGivenName d p us x) (sym n.tokens_are) (given_name d p n.spot n.text b.0.rest (after word.Assign b.0.rest) x refl (subst (λ m. local_given d p m b.0.rest (after word.Assign b.0.rest) ≡ Some x) (sym n.is) b.2))

local_item_at : (d : ℕ) (ts : List Token) (o : Option (List Token)) (x : Got LocalDecl) → after word.Star ts ≡ o → local_of d ts o ≡ Some x → Item local_tokens local_tree (Within d) ts x
local_item_at d ts None x a h =
    let s = local_named_sound d false ts x h in
    record { form = record { star = None; named = s.named; text = s.text; given = s.given }; well = (s.well, s.within); tree_is = s.tree_is; tokens_are = s.tokens_are }
local_item_at d ts (Some us) x a h =
    let r = after_is word.Star ts us a in
    let s = local_named_sound d true us x h in
    record { form = record { star = Some r.0; named = s.named; text = s.text; given = s.given }; well = (s.well, s.within); tree_is = s.tree_is; tokens_are = r.1 ∙ ap (λ w. the r.0 word.Star ∷ w) s.tokens_are }

local_item : (d : ℕ) (ts : List Token) (x : Got LocalDecl) → local d ts ≡ Some x → Item local_tokens local_tree (Within d) ts x
local_item d ts x h = local_item_at d ts (after word.Star ts) x refl h

pub local_takes : (d : ℕ) → Takes (local d)
local_takes d ts x h = let s = local_item d ts x h in omega (arith, ap length s.tokens_are, local_grows s.form x.rest)

pub record SpeltDeclaration (d l : ℕ) (ts : List Token) (x : Got Stmt) : Type 0 where
  pub forms : Listed LocalForm
  pub ends : Spot
  pub well : list.AreWell IsWellLocal forms
  pub within : list.depth local_depth forms + 1 ≤ d
  pub tree_is : stmt'.Declare l (list.trees local_tree forms) ≡ x.value
  pub tokens_are : ts ≡ list.tokens local_tokens forms (the ends word.Semi ∷ x.rest)

declaration_sound : (d l : ℕ) (ts : List Token) (x : Got Stmt) → declaration d l ts ≡ Some x → SpeltDeclaration (suc d) l ts x
declaration_sound d l ts x h =
    let a = bind_some (listing (local d) ts) (λ ds. after word.Semi ds.rest >>= (λ us. Some (got (stmt'.Declare l ds.value) us))) x h in
    let s = listed_sound local_tokens local_tree (Within d) (local d) push (local_item d) (length ts) [] ts a.0 a.1 in
    let w = all_well IsWellLocal local_depth d s.forms s.well in
    let b = bind_some (after word.Semi a.0.rest) (λ us. Some (got (stmt'.Declare l a.0.value) us)) x a.2 in
    let r = after_is word.Semi a.0.rest b.0 b.1 in
    let e : got (stmt'.Declare l a.0.value) b.0 ≡ x = cc (b.2) in
    subst (SpeltDeclaration (suc d) l ts) e (record {
      forms = s.forms;
      ends = r.0;
      well = w.0;
      within = omega (arith, w.1);
      tree_is = ap (stmt'.Declare l) (sym (pushed [] (list.trees local_tree s.forms)) ∙ s.trees_are);
      tokens_are = s.tokens_are ∙ ap (list.tokens local_tokens s.forms) r.1;
    })

pub declaration_below_sound : (d l : ℕ) (ts : List Token) (x : Got Stmt) → declaration_below d l ts ≡ Some x → SpeltDeclaration d l ts x
declaration_below_sound zero l ts x h = absurd cc
declaration_below_sound (suc d) l ts x h = declaration_sound d l ts x h
