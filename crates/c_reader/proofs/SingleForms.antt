-- What is read is spelled, and what is spelled is read: single statements.
use Rattle.std.proofs.Common.{◌≡◌, ℕ, ◌≤◌, List, [], ◌∷◌, Option, Some, None, refl, sym, ap, ◌∙◌, subst, arith, true, false, Bool, ◌⊎◌, inl, inr}
use Rattle.c_tree.specs.declared.token.Token.{Token}
use Rattle.c_tree.specs.declared.token.Kind.{Kind}
use Rattle.c_tree.specs.declared.token.Kind.TheVariants as kind
use Rattle.c_tree.specs.declared.token.Word.{Word}
use Rattle.c_tree.specs.declared.token.Word.TheVariants as word
use Rattle.c_tree.specs.declared.tree.Name.{Name}
use Rattle.c_tree.specs.declared.tree.Expr.{Expr}
use Rattle.c_tree.specs.declared.tree.Place.{Place}
use Rattle.c_tree.specs.declared.tree.Place.TheVariants as place'
use Rattle.c_tree.specs.declared.tree.PrintPiece.{PrintPiece}
use Rattle.c_tree.specs.declared.tree.Stmt.{Stmt}
use Rattle.c_tree.specs.declared.tree.Stmt.TheVariants as stmt'
use Rattle.c_tree.specs.Scan.{Spot, at}
use Rattle.c_tree.specs.Expressions.{Form, the, a_name, name_at}
use Rattle.c_tree.specs.Expressions as expr'
use Rattle.c_tree.specs.Listed.{Listed}
use Rattle.c_tree.specs.Listed as list
use Rattle.c_tree.specs.Calls.{Values, values_trees, values_depth, CallForm, Calls, Input, Main, call_tokens, call_stmt, call_depth, IsWellCall, GivenForm, Value, Answer, given_tokens}
use Rattle.c_tree.specs.Calls as spelt
use Rattle.c_tree.specs.Statements.{PlaceForm, Named, Index, At, place_tokens, place_tree, SetForm, set_tokens, set_tree, IsWellSet, set_depth, more_tokens, more_values, SingleForm, Empty, Set, SetAnswer, Call, Put, Print, Return, Break, Continue, Checkpoint, Exclude, single_tokens, single_tree, IsWellSingle, single_depth, first_line}
use Rattle.c_reader.specs.declared.singles.Start.{Start}
use Rattle.c_reader.specs.declared.singles.Start.TheVariants as start'
use Rattle.c_reader.specs.Reading.{Got, got, Read, ◌>>=◌, word_of, after, tail}
use Rattle.c_reader.specs.ReadingCalls.{values_below, call, is_call, stmt_by, given}
use Rattle.c_reader.specs.ReadingStatements.{place, assign_of, set_value, condition, format_of, format, printed, print, given_stmt, assigned_value, assigned, simple_of, simple, start_of, start_at, start, only_in_loop, single, ended}
use Rattle.c_reader.proofs.TokenKinds.{after_is, spot_of}
use Rattle.c_reader.proofs.Complete.{Ends}
use Rattle.c_reader.proofs.Sound.{bind_some}
use Rattle.c_reader.proofs.CallForms.{ends_rparen, ends_semi, values_below_read, values_below_sound, call_read, call_is_call, call_sound, stmt_is, given_read, given_sound}
use Rattle.c_reader.proofs.Assigning.{place_of_set, value_of_set, place_no_call, condition_read, SpeltPlace, place_sound, set_is, condition_sound}

-- ---- what is spelled is read

-- up to its semicolon, a spelling is read as its tree in a line
abbrev pub IsRead : ℕ → Bool → ℕ → SingleForm → List Token → Type 0
IsRead d b l f ts = single d b l (start (single_tokens f ts)) (single_tokens f ts) ≡ Some (got (single_tree l f) ts)

print_values : (d : ℕ) (v : Option (Spot × Listed Form)) (c : Spot) (ts : List Token) → spelt.AreWell (more_values v) → values_depth (more_values v) ≤ d
    → printed d (more_tokens v (the c word.RParen ∷ ts)) (after word.Comma (more_tokens v (the c word.RParen ∷ ts))) ≡ Some (got (values_trees (more_values v)) ts)
print_values d None c ts w l = refl
print_values d (Some v) c ts w l = ap (λ r. r >>= (λ v. after word.RParen v.rest >>= (λ vs. Some (got v.value vs)))) (values_below_read d v.1 (the c word.RParen ∷ ts) w l (ends_rparen c ts) refl)

place_start : (f : PlaceForm) (ts : List Token) → start (place_tokens f ts) ≡ start'.Simple
place_start (Named s x) ts = refl
place_start (Index s x o f c) ts = refl
place_start (At s f) ts = refl

call_start : (f : CallForm) (ts : List Token) → start (call_tokens f ts) ≡ start'.Simple
call_start (Calls (Main s) o vs c) ts = refl
call_start (Calls (spelt.Named s x) o vs c) ts = refl
call_start (Input s o c) ts = refl

given_stmt_is : (l : ℕ) (n : Name) (f : CallForm) → given_stmt l n (spelt.given (Answer f)) ≡ call_stmt l (Some n) f
given_stmt_is l n (Calls f o vs c) = refl
given_stmt_is l n (Input s o c) = refl

other_value : (d l : ℕ) (f : SetForm) (ts : List Token) → IsWellSet f → set_depth f ≤ d → Ends ts → assigned_value d l (place_tree f.place) (expr'.tokens f.value ts) ≡ Some (got (stmt'.Set l (set_tree f)) ts)
other_value d l f ts w h e = ap (λ r. r >>= (λ a. Some (got (stmt'.Set l a.value) a.rest))) (value_of_set d f ts w h e)

assigned_at : (d l : ℕ) (p : PlaceForm) (q : Spot) (f : Form) (ts : List Token) → IsWellSet (record { place = p; equals = q; value = f }) → set_depth (record { place = p; equals = q; value = f }) ≤ d → Ends ts
    → assigned d l (place_tree p) (expr'.tokens f ts) ≡ Some (got (stmt'.Set l (assign_of (place_tree p) (expr'.tree f))) ts)
assigned_at d l (Named s x) q f ts w h e = ap (λ r. r >>= (λ g. Some (got (given_stmt l (name_at s x) g.value) g.rest))) (given_read d (Value f) ts w.1 (omega arith) e)
assigned_at d l (Index s x o g c) q f ts w h e = other_value d l (record { place = Index s x o g c; equals = q; value = f }) ts w h e
assigned_at d l (At s g) q f ts w h e = other_value d l (record { place = At s g; equals = q; value = f }) ts w h e

set_simple : (d l : ℕ) (f : SetForm) (ts : List Token) → IsWellSet f → set_depth f ≤ d → Ends ts → simple d l (set_tokens f ts) ≡ Some (got (stmt'.Set l (set_tree f)) ts)
set_simple d l f ts w h e =
    ap (simple_of d l (set_tokens f ts)) (place_no_call f.place (the f.equals word.Assign ∷ expr'.tokens f.value ts) refl)
    ∙ ap (λ r. r >>= (λ p. after word.Assign p.rest >>= assigned d l p.value)) (place_of_set d f ts w h)
    ∙ assigned_at d l f.place f.equals f.value ts w h e

call_simple : (d l : ℕ) (f : CallForm) (ts : List Token) → IsWellCall f → call_depth f ≤ d → simple d l (call_tokens f ts) ≡ Some (got (call_stmt l None f) ts)
call_simple d l f ts w h =
    ap (simple_of d l (call_tokens f ts)) (call_is_call f ts)
    ∙ ap (λ r. r >>= (λ c. Some (got (stmt_by l None c.value) c.rest))) (call_read d f ts w h)
    ∙ ap (λ s. Some (got s ts)) (stmt_is l None f)

answer_simple : (d l : ℕ) (s : Spot) (x : List ℕ) (f : CallForm) (ts : List Token) → IsWellCall f → call_depth f ≤ d → Ends ts → assigned d l (place'.Name (name_at s x)) (call_tokens f ts) ≡ Some (got (call_stmt l (Some (name_at s x)) f) ts)
answer_simple d l s x f ts w h e =
    ap (λ r. r >>= (λ g. Some (got (given_stmt l (name_at s x) g.value) g.rest))) (given_read d (Answer f) ts w h e)
    ∙ ap (λ y. Some (got y ts)) (given_stmt_is l (name_at s x) f)

by_start : (d : ℕ) (b : Bool) (l : ℕ) (ts : List Token) (x : Read Stmt) → start ts ≡ start'.Simple → simple d l ts ≡ x → single d b l (start ts) ts ≡ x
by_start d b l ts x s h = ap (λ st. single d b l st ts) s ∙ h

in_a_loop : (b : Bool) (make : List Token → Read Stmt) (ts : List Token) → b ≡ true → (only_in_loop b ts >>= make) ≡ make ts
in_a_loop b make ts h = ap (λ c. only_in_loop c ts >>= make) h

single_read : (d : ℕ) (b : Bool) (l : ℕ) (f : SingleForm) (e : Spot) (ts : List Token) → IsWellSingle b f → single_depth f ≤ d → IsRead d b l f (the e word.Semi ∷ ts)
single_read d b l Empty e ts w h = refl
single_read d b l (Set f) e ts w h =
    by_start d b l (set_tokens f (the e word.Semi ∷ ts)) _ (place_start f.place (the f.equals word.Assign ∷ expr'.tokens f.value (the e word.Semi ∷ ts))) (set_simple d l f (the e word.Semi ∷ ts) w h (ends_semi e ts))
single_read d b l (SetAnswer s x q f) e ts w h = answer_simple d l s x f (the e word.Semi ∷ ts) w h (ends_semi e ts)
single_read d b l (Call f) e ts w h = by_start d b l (call_tokens f (the e word.Semi ∷ ts)) _ (call_start f (the e word.Semi ∷ ts)) (call_simple d l f (the e word.Semi ∷ ts) w h)
single_read d b l (Put s o f c) e ts w h = ap (λ r. r >>= (λ x. Some (got (stmt'.Put l x.value) x.rest))) (condition_read d o f c (the e word.Semi ∷ ts) w h)
single_read d b l (Print s o f c) e ts w h = ap (λ r. r >>= (λ v. Some (got (stmt'.Print l f.pieces v.value) v.rest))) (print_values d f.values c (the e word.Semi ∷ ts) w h)
single_read d b l (Return s f) e ts w h = ap (λ r. r >>= (λ g. Some (got (stmt'.Return l g.value) g.rest))) (given_read d f (the e word.Semi ∷ ts) w h (ends_semi e ts))
single_read d b l (Break s) e ts w h = in_a_loop b (λ us. Some (got (stmt'.Break l) us)) (the e word.Semi ∷ ts) w
single_read d b l (Continue s) e ts w h = in_a_loop b (λ us. Some (got (stmt'.Continue l) us)) (the e word.Semi ∷ ts) w
single_read d b l (Checkpoint s) e ts w h = refl
single_read d b l (Exclude s) e ts w h = refl

-- with its semicolon
pub ended_read : (d : ℕ) (b : Bool) (l : ℕ) (f : SingleForm) (e : Spot) (ts : List Token) → IsWellSingle b f → single_depth f ≤ d → ended d b l (start (single_tokens f (the e word.Semi ∷ ts))) (single_tokens f (the e word.Semi ∷ ts)) ≡ Some (got (single_tree l f) ts)
ended_read d b l f e ts w h = ap (λ r. r >>= (λ s. after word.Semi s.rest >>= (λ us. Some (got s.value us)))) (single_read d b l f e ts w h)

-- a single statement begins no other kind
abbrev pub is_single : Start → Bool
is_single start'.Block = false
is_single start'.If = false
is_single start'.While = false
is_single start'.Do = false
is_single start'.For = false
is_single _ = true

pub single_start : (f : SingleForm) (e : Spot) (ts : List Token) → is_single (start (single_tokens f (the e word.Semi ∷ ts))) ≡ true
single_start Empty e ts = refl
single_start (Set f) e ts = ap is_single (place_start f.place (the f.equals word.Assign ∷ expr'.tokens f.value (the e word.Semi ∷ ts)))
single_start (SetAnswer s x q f) e ts = refl
single_start (Call f) e ts = ap is_single (call_start f (the e word.Semi ∷ ts))
single_start (Put s o f c) e ts = refl
single_start (Print s o f c) e ts = refl
single_start (Return s f) e ts = refl
single_start (Break s) e ts = refl
single_start (Continue s) e ts = refl
single_start (Checkpoint s) e ts = refl
single_start (Exclude s) e ts = refl

place_line : (f : PlaceForm) (ts us : List Token) → first_line (place_tokens f ts) ≡ first_line (place_tokens f us)
place_line (Named s x) ts us = refl
place_line (Index s x o f c) ts us = refl
place_line (At s f) ts us = refl

call_line : (f : CallForm) (ts us : List Token) → first_line (call_tokens f ts) ≡ first_line (call_tokens f us)
call_line (Calls f o vs c) ts us = refl
call_line (Input s o c) ts us = refl

-- the line does not hang on what follows
pub single_line : (f : SingleForm) (e : Spot) (ts us : List Token) → first_line (single_tokens f (the e word.Semi ∷ ts)) ≡ first_line (single_tokens f (the e word.Semi ∷ us))
single_line Empty e ts us = refl
single_line (Set f) e ts us = place_line f.place _ _
single_line (SetAnswer s x q f) e ts us = refl
single_line (Call f) e ts us = call_line f _ _
single_line (Put s o f c) e ts us = refl
single_line (Print s o f c) e ts us = refl
single_line (Return s f) e ts us = refl
single_line (Break s) e ts us = refl
single_line (Continue s) e ts us = refl
single_line (Checkpoint s) e ts us = refl
single_line (Exclude s) e ts us = refl

-- ---- what is read is spelled

-- the word with which a statement begins so
abbrev pub word_at : Start → Word
word_at start'.Empty = word.Semi
word_at start'.Put = word.Putchar
word_at start'.Print = word.Printf
word_at start'.Return = word.Return
word_at start'.Break = word.Break
word_at start'.Continue = word.Continue
word_at start'.Checkpoint = word.Checkpoint
word_at start'.Exclude = word.Exclude
word_at start'.Block = word.LBrace
word_at start'.If = word.If
word_at start'.While = word.While
word_at start'.Do = word.Do
word_at start'.For = word.For
word_at start'.Simple = word.Other

start_word : (w : Word) → (start_of w ≡ start'.Simple) ⊎ (w ≡ word_at (start_of w))
start_word word.Semi = inr refl
start_word word.Putchar = inr refl
start_word word.Printf = inr refl
start_word word.Return = inr refl
start_word word.Break = inr refl
start_word word.Continue = inr refl
start_word word.Checkpoint = inr refl
start_word word.Exclude = inr refl
start_word word.LBrace = inr refl
start_word word.If = inr refl
start_word word.While = inr refl
start_word word.Do = inr refl
start_word word.For = inr refl
start_word _ = inl refl

abbrev pub is_simple : Start → Bool
is_simple start'.Simple = true
is_simple _ = false

begun_word : (w : Word) (st : Start) → (start_of w ≡ start'.Simple) ⊎ (w ≡ word_at (start_of w)) → start_of w ≡ st → is_simple st ≡ false → w ≡ word_at st
begun_word w st (inl a) e n = let q : true ≡ false = ap is_simple (sym a ∙ e) ∙ n in absurd cc
begun_word w st (inr a) e n = a ∙ ap word_at e

begun_kind : (k : Kind) (st : Start) → start_at (word_of k) ≡ st → is_simple st ≡ false → k ≡ kind.Word (word_at st)
begun_kind (kind.Word w) st e n = ap kind.Word (begun_word w st (start_word w) e n)
begun_kind (kind.Num v) st e n = let q : true ≡ false = ap is_simple e ∙ n in absurd cc
begun_kind (kind.Name x) st e n = let q : true ≡ false = ap is_simple e ∙ n in absurd cc
begun_kind (kind.Format ps) st e n = let q : true ≡ false = ap is_simple e ∙ n in absurd cc

-- the token in front, and its line
pub record Begun (st : Start) (ts : List Token) : Type 0 where
  pub spot : Spot
  pub line_is : spot.line ≡ first_line ts
  pub tokens_are : ts ≡ the spot (word_at st) ∷ tail ts

pub begun : (ts : List Token) (st : Start) → start ts ≡ st → is_simple st ≡ false → Begun st ts
begun [] st e n = let q : true ≡ false = ap is_simple e ∙ n in absurd cc
begun (t ∷ ts) st e n = record { spot = spot_of t; line_is = refl; tokens_are = ap (λ k. at (spot_of t) k ∷ ts) (begun_kind t.kind st e n) }

-- up to its semicolon
pub record SpeltSingle (d : ℕ) (b : Bool) (l : ℕ) (ts : List Token) (x : Got Stmt) : Type 0 where
  pub form : SingleForm
  pub well : IsWellSingle b form
  pub within : single_depth form ≤ d
  pub tree_is : single_tree l form ≡ x.value
  pub tokens_are : ts ≡ single_tokens form x.rest

some_is : {A : Type 0} {x y : A} → Some x ≡ Some y → x ≡ y
some_is h = cc

value_set_sound : (d : ℕ) (b : Bool) (l : ℕ) (ts us vs : List Token) (p : Place) (x : Got Stmt) → SpeltPlace d ts (got p us) → after word.Assign us ≡ Some vs → assigned_value d l p vs ≡ Some x → SpeltSingle d b l ts x
value_set_sound d b l ts us vs p x s a h =
    let c = bind_some (set_value d p vs) (λ a. Some (got (stmt'.Set l a.value) a.rest)) x h in
    let v = set_is d ts (got p us) vs c.0 s a c.1 in
    let e : got (stmt'.Set l c.0.value) c.0.rest ≡ x = cc (c.2) in
    subst (SpeltSingle d b l ts) e (record { form = Set v.form; well = v.well; within = v.within; tree_is = ap (stmt'.Set l) v.tree_is; tokens_are = v.tokens_are })

-- a name was given a value or a call's answer
named_given : (d : ℕ) (b : Bool) (l : ℕ) (ts vs ws : List Token) (s : Spot) (t : List ℕ) (q : Spot) (f : GivenForm) → spelt.IsWellGiven f → spelt.given_depth f ≤ d → ts ≡ a_name s t ∷ the q word.Assign ∷ vs → vs ≡ given_tokens f ws
    → SpeltSingle d b l ts (got (given_stmt l (name_at s t) (spelt.given f)) ws)
named_given d b l ts vs ws s t q (Value f) w h e g =
    record { form = Set (record { place = Named s t; equals = q; value = f }); well = (tt, w); within = omega arith; tree_is = refl; tokens_are = e ∙ ap (λ u. a_name s t ∷ the q word.Assign ∷ u) g }
named_given d b l ts vs ws s t q (Answer f) w h e g =
    record { form = SetAnswer s t q f; well = w; within = h; tree_is = sym (given_stmt_is l (name_at s t) f); tokens_are = e ∙ ap (λ u. a_name s t ∷ the q word.Assign ∷ u) g }

-- the place is a name
place_name : (f : PlaceForm) (n : Name) → place_tree f ≡ place'.Name n → (s : Spot) × (t : List ℕ) × (f ≡ Named s t) × (name_at s t ≡ n)
place_name (Named s t) n e = (s, t, refl, cc)
place_name (Index s x o f c) n e = absurd cc
place_name (At s f) n e = absurd cc

name_set_sound : (d : ℕ) (b : Bool) (l : ℕ) (ts us vs : List Token) (n : Name) (x : Got Stmt) → SpeltPlace d ts (got (place'.Name n) us) → after word.Assign us ≡ Some vs → (given d vs >>= (λ g. Some (got (given_stmt l n g.value) g.rest))) ≡ Some x → SpeltSingle d b l ts x
name_set_sound d b l ts us vs n x s a h =
    let p = place_name s.form n s.tree_is in
    let r = after_is word.Assign us vs a in
    let c = bind_some (given d vs) (λ g. Some (got (given_stmt l n g.value) g.rest)) x h in
    let v = given_sound d vs c.0 c.1 in
    let t : ts ≡ a_name p.0 p.1 ∷ the r.0 word.Assign ∷ vs = s.tokens_are ∙ ap (λ f. place_tokens f us) p.2 ∙ ap (λ w. a_name p.0 p.1 ∷ w) r.1 in
    let y = named_given d b l ts vs c.0.rest p.0 p.1 r.0 v.form v.well v.within t v.tokens_are in
    let e : got (given_stmt l (name_at p.0 p.1) (spelt.given v.form)) c.0.rest ≡ x =
    ap (λ m. got (given_stmt l m (spelt.given v.form)) c.0.rest) p.3 ∙ ap (λ g. got (given_stmt l n g) c.0.rest) v.is ∙ some_is (c.2) in
    subst (SpeltSingle d b l ts) e y

assigned_sound : (d : ℕ) (b : Bool) (l : ℕ) (ts us vs : List Token) (p : Place) (x : Got Stmt) → SpeltPlace d ts (got p us) → after word.Assign us ≡ Some vs → assigned d l p vs ≡ Some x → SpeltSingle d b l ts x
assigned_sound d b l ts us vs (place'.Name n) x s a h = name_set_sound d b l ts us vs n x s a h
assigned_sound d b l ts us vs (place'.Index n e) x s a h = value_set_sound d b l ts us vs (place'.Index n e) x s a h
assigned_sound d b l ts us vs (place'.At e) x s a h = value_set_sound d b l ts us vs (place'.At e) x s a h

module _ (d : ℕ) (b : Bool) (l : ℕ) (ts : List Token) (x : Got Stmt) where
  empty_sound : Some (got (stmt'.Empty l) ts) ≡ Some x → SpeltSingle d b l ts x
  empty_sound h =
      let e : got (stmt'.Empty l) ts ≡ x = cc (h) in
      subst (SpeltSingle d b l ts) e (record { form = Empty; well = tt; within = omega arith; tree_is = refl; tokens_are = refl })

  put_sound : Begun start'.Put ts → (condition d (tail ts) >>= (λ x. Some (got (stmt'.Put l x.value) x.rest))) ≡ Some x → SpeltSingle d b l ts x
  put_sound g h =
      let a = bind_some (condition d (tail ts)) (λ x. Some (got (stmt'.Put l x.value) x.rest)) x h in
      let c = condition_sound d (tail ts) a.0 a.1 in
      let e : got (stmt'.Put l a.0.value) a.0.rest ≡ x = cc (a.2) in
      subst (SpeltSingle d b l ts) e (record { form = Put g.spot c.opens c.form c.closes; well = c.well; within = c.within; tree_is = ap (stmt'.Put l) c.tree_is; tokens_are = g.tokens_are ∙ ap (λ w. the g.spot word.Putchar ∷ w) c.tokens_are })

  return_sound : Begun start'.Return ts → (given d (tail ts) >>= (λ g. Some (got (stmt'.Return l g.value) g.rest))) ≡ Some x → SpeltSingle d b l ts x
  return_sound g h =
      let a = bind_some (given d (tail ts)) (λ g. Some (got (stmt'.Return l g.value) g.rest)) x h in
      let c = given_sound d (tail ts) a.0 a.1 in
      let e : got (stmt'.Return l a.0.value) a.0.rest ≡ x = cc (a.2) in
      subst (SpeltSingle d b l ts) e (record { form = Return g.spot c.form; well = c.well; within = c.within; tree_is = ap (stmt'.Return l) c.is; tokens_are = g.tokens_are ∙ ap (λ w. the g.spot word.Return ∷ w) c.tokens_are })

  checkpoint_sound : Begun start'.Checkpoint ts → Some (got (stmt'.Checkpoint l) (tail ts)) ≡ Some x → SpeltSingle d b l ts x
  checkpoint_sound g h =
      let e : got (stmt'.Checkpoint l) (tail ts) ≡ x = cc (h) in
      subst (SpeltSingle d b l ts) e (record { form = Checkpoint g.spot; well = tt; within = omega arith; tree_is = refl; tokens_are = g.tokens_are })

  exclude_sound : Begun start'.Exclude ts → Some (got (stmt'.Exclude l) (tail ts)) ≡ Some x → SpeltSingle d b l ts x
  exclude_sound g h =
      let e : got (stmt'.Exclude l) (tail ts) ≡ x = cc (h) in
      subst (SpeltSingle d b l ts) e (record { form = Exclude g.spot; well = tt; within = omega arith; tree_is = refl; tokens_are = g.tokens_are })

  simple_sound : (c : Bool) → simple_of d l ts c ≡ Some x → SpeltSingle d b l ts x
  simple_sound true h =
      let a = bind_some (call d ts) (λ c. Some (got (stmt_by l None c.value) c.rest)) x h in
      let c = call_sound d ts a.0 a.1 in
      let e : got (stmt_by l None a.0.value) a.0.rest ≡ x = cc (a.2) in
      subst (SpeltSingle d b l ts) e (record { form = Call c.form; well = c.well; within = c.within; tree_is = sym (stmt_is l None c.form) ∙ ap (stmt_by l None) c.is; tokens_are = c.tokens_are })
  simple_sound false h =
      let a = bind_some (place d ts) (λ p. after word.Assign p.rest >>= assigned d l p.value) x h in
      let q = bind_some (after word.Assign a.0.rest) (assigned d l a.0.value) x a.2 in
      assigned_sound d b l ts a.0.rest q.0 a.0.value x (place_sound d ts a.0 a.1) q.1 q.2

in_loop_sound : (d : ℕ) (b : Bool) (l : ℕ) (ts us : List Token) (x : Got Stmt) (f : SingleForm) (s : Stmt) → (b ≡ true → IsWellSingle b f) → single_depth f ≡ 0 → single_tree l f ≡ s → ts ≡ single_tokens f us
    → (only_in_loop b us >>= (λ vs. Some (got s vs))) ≡ Some x → SpeltSingle d b l ts x
in_loop_sound d true l ts us x f s w z t e h =
    let q : got s us ≡ x = cc (h) in
    subst (SpeltSingle d true l ts) q (record { form = f; well = w refl; within = omega arith; tree_is = t; tokens_are = e })
in_loop_sound d false l ts us x f s w z t e h = absurd cc

-- the string in front
record Formats (ts : List Token) (x : Got (List PrintPiece)) : Type 0 where
  spot : Spot
  tokens_are : ts ≡ at spot (kind.Format x.value) ∷ x.rest

format_kind : (s : Spot) (k : Kind) (ts : List Token) (x : Got (List PrintPiece)) → format_of k ts ≡ Some x → Formats (at s k ∷ ts) x
format_kind s (kind.Format ps) ts x h =
    let e : got ps ts ≡ x = cc (h) in
    subst (Formats (at s (kind.Format ps) ∷ ts)) e (record { spot = s; tokens_are = refl })
format_kind s (kind.Num v) ts x h = absurd cc
format_kind s (kind.Name t) ts x h = absurd cc
format_kind s (kind.Word w) ts x h = absurd cc

format_is : (ts : List Token) (x : Got (List PrintPiece)) → format ts ≡ Some x → Formats ts x
format_is [] x h = absurd cc
format_is (t ∷ ts) x h = format_kind (spot_of t) t.kind ts x h

record SpeltPrinted (d : ℕ) (ts : List Token) (x : Got (List Expr)) : Type 0 where
  values : Option (Spot × Listed Form)
  closes : Spot
  well : spelt.AreWell (more_values values)
  within : values_depth (more_values values) ≤ d
  trees_are : values_trees (more_values values) ≡ x.value
  tokens_are : ts ≡ more_tokens values (the closes word.RParen ∷ x.rest)

printed_sound : (d : ℕ) (ts : List Token) (o : Option (List Token)) (x : Got (List Expr)) → after word.Comma ts ≡ o → printed d ts o ≡ Some x → SpeltPrinted d ts x
printed_sound d ts None x a h =
    let b = bind_some (after word.RParen ts) (λ us. Some (got [] us)) x h in
    let r = after_is word.RParen ts b.0 b.1 in
    let e : got [] b.0 ≡ x = cc (b.2) in
    subst (SpeltPrinted d ts) e (record { values = None; closes = r.0; well = tt; within = omega arith; trees_are = refl; tokens_are = r.1 })
printed_sound d ts (Some us) x a h =
    let q = after_is word.Comma ts us a in
    let b = bind_some (values_below d us) (λ v. after word.RParen v.rest >>= (λ vs. Some (got v.value vs))) x h in
    let v = values_below_sound d us b.0 b.1 in
    let c = bind_some (after word.RParen b.0.rest) (λ vs. Some (got b.0.value vs)) x b.2 in
    let r = after_is word.RParen b.0.rest c.0 c.1 in
    let e : got b.0.value c.0 ≡ x = cc (c.2) in
    subst (SpeltPrinted d ts) e (record {
      values = Some (q.0, v.forms);
      closes = r.0;
      well = v.well;
      within = v.within;
      trees_are = v.trees_are;
      tokens_are = q.1 ∙ ap (λ w. the q.0 word.Comma ∷ w) (v.tokens_are ∙ ap (list.tokens expr'.tokens v.forms) r.1);
    })

print_is : (d : ℕ) (b : Bool) (l : ℕ) (ts us : List Token) (s o : Spot) (f : Got (List PrintPiece)) (v : Got (List Expr)) → ts ≡ the s word.Printf ∷ the o word.LParen ∷ us → Formats us f → SpeltPrinted d f.rest v
    → SpeltSingle d b l ts (got (stmt'.Print l f.value v.value) v.rest)
print_is d b l ts us s o f v e p q =
    record {
      form = Print s o (record { string = p.spot; pieces = f.value; values = q.values }) q.closes;
      well = q.well;
      within = q.within;
      tree_is = ap (stmt'.Print l f.value) q.trees_are;
      tokens_are = e ∙ ap (λ w. the s word.Printf ∷ the o word.LParen ∷ w) (p.tokens_are ∙ ap (λ w. at p.spot (kind.Format f.value) ∷ w) q.tokens_are);
    }

print_sound : (d : ℕ) (b : Bool) (l : ℕ) (ts : List Token) (x : Got Stmt) → Begun start'.Print ts → print d l (tail ts) ≡ Some x → SpeltSingle d b l ts x
print_sound d b l ts x g h =
    let a = bind_some (after word.LParen (tail ts)) (λ us. format us >>= (λ f. printed d f.rest (after word.Comma f.rest) >>= (λ v. Some (got (stmt'.Print l f.value v.value) v.rest)))) x h in
    let o = after_is word.LParen (tail ts) a.0 a.1 in
    let c = bind_some (format a.0) (λ f. printed d f.rest (after word.Comma f.rest) >>= (λ v. Some (got (stmt'.Print l f.value v.value) v.rest))) x a.2 in
    let q = bind_some (printed d c.0.rest (after word.Comma c.0.rest)) (λ v. Some (got (stmt'.Print l c.0.value v.value) v.rest)) x c.2 in
    let e : got (stmt'.Print l c.0.value q.0.value) q.0.rest ≡ x = cc (q.2) in
    subst (SpeltSingle d b l ts) e (print_is d b l ts a.0 g.spot o.0 c.0 q.0 (g.tokens_are ∙ ap (λ w. the g.spot word.Printf ∷ w) o.1) (format_is a.0 c.0 c.1) (printed_sound d c.0.rest (after word.Comma c.0.rest) q.0 refl q.1))

single_sound : (d : ℕ) (b : Bool) (l : ℕ) (ts : List Token) (st : Start) (x : Got Stmt) → start ts ≡ st → single d b l st ts ≡ Some x → SpeltSingle d b l ts x
single_sound d b l ts start'.Empty x e h = empty_sound d b l ts x h
single_sound d b l ts start'.Put x e h = put_sound d b l ts x (begun ts start'.Put e refl) h
single_sound d b l ts start'.Print x e h = print_sound d b l ts x (begun ts start'.Print e refl) h
single_sound d b l ts start'.Return x e h = return_sound d b l ts x (begun ts start'.Return e refl) h
single_sound d b l ts start'.Break x e h = let g = begun ts start'.Break e refl in in_loop_sound d b l ts (tail ts) x (Break g.spot) (stmt'.Break l) (λ t. t) refl refl g.tokens_are h
single_sound d b l ts start'.Continue x e h = let g = begun ts start'.Continue e refl in in_loop_sound d b l ts (tail ts) x (Continue g.spot) (stmt'.Continue l) (λ t. t) refl refl g.tokens_are h
single_sound d b l ts start'.Checkpoint x e h = checkpoint_sound d b l ts x (begun ts start'.Checkpoint e refl) h
single_sound d b l ts start'.Exclude x e h = exclude_sound d b l ts x (begun ts start'.Exclude e refl) h
single_sound d b l ts start'.Simple x e h = simple_sound d b l ts x (is_call ts) h
single_sound d b l ts _ x e h = absurd cc

pub record SpeltEnded (d : ℕ) (b : Bool) (l : ℕ) (ts : List Token) (x : Got Stmt) : Type 0 where
  pub form : SingleForm
  pub ends : Spot
  pub well : IsWellSingle b form
  pub within : single_depth form ≤ d
  pub tree_is : single_tree l form ≡ x.value
  pub tokens_are : ts ≡ single_tokens form (the ends word.Semi ∷ x.rest)

pub ended_sound : (d : ℕ) (b : Bool) (l : ℕ) (ts : List Token) (st : Start) (x : Got Stmt) → start ts ≡ st → ended d b l st ts ≡ Some x → SpeltEnded d b l ts x
ended_sound d b l ts st x e h =
    let a = bind_some (single d b l st ts) (λ s. after word.Semi s.rest >>= (λ us. Some (got s.value us))) x h in
    let s = single_sound d b l ts st a.0 e a.1 in
    let c = bind_some (after word.Semi a.0.rest) (λ us. Some (got a.0.value us)) x a.2 in
    let r = after_is word.Semi a.0.rest c.0 c.1 in
    let q : got a.0.value c.0 ≡ x = cc (c.2) in
    subst (SpeltEnded d b l ts) q (record { form = s.form; ends = r.0; well = s.well; within = s.within; tree_is = s.tree_is; tokens_are = s.tokens_are ∙ ap (single_tokens s.form) r.1 })
