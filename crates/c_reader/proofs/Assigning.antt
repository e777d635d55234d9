-- What is read is spelled, and what is spelled is read: assignments and the head of a `for`.
use Rattle.std.proofs.Common.{◌≡◌, ℕ, ◌≤◌, List, ◌∷◌, Option, Some, None, refl, sym, ap, ◌∙◌, subst, arith, true, false, Bool}
use Rattle.c_tree.specs.declared.token.Token.{Token}
use Rattle.c_tree.specs.declared.token.Word.TheVariants as word
use Rattle.c_tree.specs.declared.tree.Expr.{Expr}
use Rattle.c_tree.specs.declared.tree.Place.{Place}
use Rattle.c_tree.specs.declared.tree.Place.TheVariants as place'
use Rattle.c_tree.specs.declared.tree.Assign.{Assign}
use Rattle.c_tree.specs.declared.tree.Init.{Init}
use Rattle.c_tree.specs.declared.tree.Init.TheVariants as init'
use Rattle.c_tree.specs.Scan.{Spot}
use Rattle.c_tree.specs.Expressions.{Form, the, a_name, name_at}
use Rattle.c_tree.specs.Expressions as expr'
use Rattle.c_tree.specs.Statements.{PlaceForm, Named, Index, At, place_tokens, place_tree, IsWellPlace, place_depth, SetForm, set_tokens, set_tree, IsWellSet, set_depth, InitForm, Nothing, Sets, Declares, init_tokens, init_tree, IsWellInit, init_depth, test_tokens, test_tree, IsWellTest, test_depth, update_tokens, update_tree, IsWellUpdate, update_depth, HeadForm, head_tokens, IsWellHead, head_depth}
use Rattle.c_reader.specs.declared.assignments.Head.{Head}
use Rattle.c_reader.specs.Reading.{Got, got, Deep, ◌>>=◌, after, tail, front, name, below, index, closed, value}
use Rattle.c_reader.specs.ReadingCalls.{is_call, is_there}
use Rattle.c_reader.specs.ReadingStatements.{place_named, place_of, place, assign_of, set_value, set, condition, declared, init_some, init_of, init, test_of, test, update_of, update, head_of, test_part, update_part, head}
use Rattle.c_reader.proofs.TokenKinds.{after_is}
use Rattle.c_reader.proofs.Complete.{NoIndex, Ends, value_read, index_read, prefix_read}
use Rattle.c_reader.proofs.Sound.{bind_some, name_is, value_sound, below_index, below_prefix_sound}
use Rattle.c_reader.proofs.CallForms.{may_begin, other_front, not_in_front, ends_rparen, ends_semi}

-- ---- what is spelled is read

pub place_read : (d : ℕ) (f : PlaceForm) (ts : List Token) → IsWellPlace f → place_depth f ≤ d → NoIndex ts → place d (place_tokens f ts) ≡ Some (got (place_tree f) ts)
place_read d (Named s x) ts w l ni = ap (place_named d (name_at s x) ts) ni
place_read d (Index s x o f c) ts w l ni =
    ap (λ (r : Option Deep). (r >>= closed word.RBracket) >>= (λ y. Some (got (place'.Index (name_at s x) y.value) y.rest))) (index_read d f c word.RBracket ts w l refl refl)
place_read d (At s f) ts w l ni = ap (λ (r : Option Deep). r >>= (λ y. Some (got (place'.At y.value) y.rest))) (prefix_read d f ts w.1 l w.0 ni)

set_value_read : (d : ℕ) (p : Place) (f : Form) (ts : List Token) → expr'.IsWell f → expr'.depth f ≤ d → Ends ts → set_value d p (expr'.tokens f ts) ≡ Some (got (assign_of p (expr'.tree f)) ts)
set_value_read d p f ts w l e = ap (λ r. r >>= (λ x. Some (got (assign_of p x.value) x.rest))) (value_read d f ts w l e)

-- the place of an assignment, up to its value
pub place_of_set : (d : ℕ) (f : SetForm) (ts : List Token) → IsWellSet f → set_depth f ≤ d → place d (set_tokens f ts) ≡ Some (got (place_tree f.place) (the f.equals word.Assign ∷ expr'.tokens f.value ts))
place_of_set d f ts w l = place_read d f.place (the f.equals word.Assign ∷ expr'.tokens f.value ts) w.0 (omega arith) refl

pub value_of_set : (d : ℕ) (f : SetForm) (ts : List Token) → IsWellSet f → set_depth f ≤ d → Ends ts → set_value d (place_tree f.place) (expr'.tokens f.value ts) ≡ Some (got (set_tree f) ts)
value_of_set d f ts w l e = set_value_read d (place_tree f.place) f.value ts w.1 (omega arith) e

pub set_read : (d : ℕ) (f : SetForm) (ts : List Token) → IsWellSet f → set_depth f ≤ d → Ends ts → set d (set_tokens f ts) ≡ Some (got (set_tree f) ts)
set_read d f ts w l e = ap (λ r. r >>= (λ p. after word.Assign p.rest >>= set_value d p.value)) (place_of_set d f ts w l) ∙ value_of_set d f ts w l e

place_front : (f : PlaceForm) (ts : List Token) → may_begin (front (place_tokens f ts)) ≡ true
place_front (Named s x) ts = refl
place_front (Index s x o f c) ts = refl
place_front (At s f) ts = refl

pub place_no_call : (f : PlaceForm) (ts : List Token) → after word.LParen ts ≡ None → is_call (place_tokens f ts) ≡ false
place_no_call (Named s x) ts h = ap is_there h
place_no_call (Index s x o f c) ts h = refl
place_no_call (At s f) ts h = refl

pub condition_read : (d : ℕ) (o : Spot) (f : Form) (c : Spot) (ts : List Token) → expr'.IsWell f → expr'.depth f ≤ d → condition d (the o word.LParen ∷ expr'.tokens f (the c word.RParen ∷ ts)) ≡ Some (got (expr'.tree f) ts)
condition_read d o f c ts w l = ap (λ r. r >>= (λ x. after word.RParen x.rest >>= (λ vs. Some (got x.value vs)))) (value_read d f (the c word.RParen ∷ ts) w l (ends_rparen c ts))

init_read : (d : ℕ) (f : InitForm) (s : Spot) (ts : List Token) → IsWellInit f → init_depth f ≤ d → init d (init_tokens f (the s word.Semi ∷ ts)) ≡ Some (got (init_tree f) (the s word.Semi ∷ ts))
init_read d Nothing s ts w l = refl
init_read d (Sets f) s ts w l =
    let x = set_tokens f (the s word.Semi ∷ ts) in
    let m = place_front f.place (the f.equals word.Assign ∷ expr'.tokens f.value (the s word.Semi ∷ ts)) in
    ap (λ o. init_of d x (is_there o)) (other_front word.Semi x refl m)
    ∙ ap (init_some d x) (other_front word.Long x refl m)
    ∙ ap (λ r. r >>= (λ a. Some (got (Some (init'.Assign a.value)) a.rest))) (set_read d f (the s word.Semi ∷ ts) w l (ends_semi s ts))
init_read d (Declares o n x e f) s ts w l =
    ap (λ r. r >>= (λ y. Some (got (Some (init'.Declare (name_at n x) y.value)) y.rest))) (value_read d f (the s word.Semi ∷ ts) w l (ends_semi s ts))

test_read : (d : ℕ) (f : Option Form) (s : Spot) (ts : List Token) → IsWellTest f → test_depth f ≤ d → test d (test_tokens f (the s word.Semi ∷ ts)) ≡ Some (got (test_tree f) (the s word.Semi ∷ ts))
test_read d None s ts w l = refl
test_read d (Some f) s ts w l =
    let x = expr'.tokens f (the s word.Semi ∷ ts) in
    ap (λ o. test_of d x (is_there o)) (not_in_front word.Semi f (the s word.Semi ∷ ts) refl)
    ∙ ap (λ r. r >>= (λ y. Some (got (Some y.value) y.rest))) (value_read d f (the s word.Semi ∷ ts) w l (ends_semi s ts))

update_read : (d : ℕ) (f : Option SetForm) (s : Spot) (ts : List Token) → IsWellUpdate f → update_depth f ≤ d → update d (update_tokens f (the s word.RParen ∷ ts)) ≡ Some (got (update_tree f) (the s word.RParen ∷ ts))
update_read d None s ts w l = refl
update_read d (Some f) s ts w l =
    let x = set_tokens f (the s word.RParen ∷ ts) in
    ap (λ o. update_of d x (is_there o)) (other_front word.RParen x refl (place_front f.place (the f.equals word.Assign ∷ expr'.tokens f.value (the s word.RParen ∷ ts))))
    ∙ ap (λ r. r >>= (λ a. Some (got (Some a.value) a.rest))) (set_read d f (the s word.RParen ∷ ts) w l (ends_rparen s ts))

test_part_read : (d : ℕ) (a : Spot) (f : Option Form) (b : Spot) (ts : List Token) → IsWellTest f → test_depth f ≤ d → test_part d (the a word.Semi ∷ test_tokens f (the b word.Semi ∷ ts)) ≡ Some (got (test_tree f) ts)
test_part_read d a f b ts w l = ap (λ r. r >>= (λ t. after word.Semi t.rest >>= (λ vs. Some (got t.value vs)))) (test_read d f b ts w l)

update_part_read : (d : ℕ) (f : Option SetForm) (c : Spot) (ts : List Token) → IsWellUpdate f → update_depth f ≤ d → update_part d (update_tokens f (the c word.RParen ∷ ts)) ≡ Some (got (update_tree f) ts)
update_part_read d f c ts w l = ap (λ r. r >>= (λ u. after word.RParen u.rest >>= (λ vs. Some (got u.value vs)))) (update_read d f c ts w l)

pub head_read : (d : ℕ) (f : HeadForm) (ts : List Token) → IsWellHead f → head_depth f ≤ d → head d (head_tokens f ts) ≡ Some (got (head_of (init_tree f.init) (test_tree f.test) (update_tree f.update)) ts)
head_read d f ts w l =
    let us = update_tokens f.update (the f.closes word.RParen ∷ ts) in
    ap (λ r. r >>= (λ i. test_part d i.rest >>= (λ t. update_part d t.rest >>= (λ u. Some (got (head_of i.value t.value u.value) u.rest))))) (init_read d f.init f.first (test_tokens f.test (the f.second word.Semi ∷ us)) w.0 (omega arith))
    ∙ ap (λ r. r >>= (λ t. update_part d t.rest >>= (λ u. Some (got (head_of (init_tree f.init) t.value u.value) u.rest)))) (test_part_read d f.first f.test f.second us w.1 (omega arith))
    ∙ ap (λ r. r >>= (λ u. Some (got (head_of (init_tree f.init) (test_tree f.test) u.value) u.rest))) (update_part_read d f.update f.closes ts w.2 (omega arith))

-- ---- what is read is spelled

pub record SpeltPlace (d : ℕ) (ts : List Token) (x : Got Place) : Type 0 where
  pub form : PlaceForm
  pub well : IsWellPlace form
  pub within : place_depth form ≤ d
  pub tree_is : place_tree form ≡ x.value
  pub tokens_are : ts ≡ place_tokens form x.rest

place_named_sound : (d : ℕ) (s : Spot) (t : List ℕ) (ts : List Token) (o : Option (List Token)) (x : Got Place) → after word.LBracket ts ≡ o → place_named d (name_at s t) ts o ≡ Some x → SpeltPlace d (a_name s t ∷ ts) x
place_named_sound d s t ts None x a h =
    let e : got (place'.Name (name_at s t)) ts ≡ x = cc (h) in
    subst (SpeltPlace d (a_name s t ∷ ts)) e (record { form = Named s t; well = tt; within = omega arith; tree_is = refl; tokens_are = refl })
place_named_sound d s t ts (Some us) x a h =
    let b = bind_some (index (below d) ts) (λ y. Some (got (place'.Index (name_at s t) y.value) y.rest)) x h in
    let i = below_index d ts us b.0 a b.1 in
    let e : got (place'.Index (name_at s t) b.0.value) b.0.rest ≡ x = cc (b.2) in
    subst (SpeltPlace d (a_name s t ∷ ts)) e (record {
      form = Index s t i.opens i.between.form i.between.closes;
      well = i.between.well;
      within = i.between.within;
      tree_is = ap (place'.Index (name_at s t)) i.between.tree_is;
      tokens_are = ap (λ v. a_name s t ∷ v) (i.tokens_are ∙ ap (λ v. the i.opens word.LBracket ∷ v) i.between.tokens_are);
    })

star_tail : (ts us : List Token) (s : Spot) → ts ≡ the s word.Star ∷ us → ts ≡ the s word.Star ∷ tail ts
star_tail ts us s e = e ∙ ap (λ v. the s word.Star ∷ tail v) (sym e)

place_at : (d : ℕ) (ts : List Token) (o : Option (List Token)) (x : Got Place) → after word.Star ts ≡ o → place_of d ts o ≡ Some x → SpeltPlace d ts x
place_at d ts (Some us) x a h =
    let r = after_is word.Star ts us a in
    let b = bind_some (below d 11 (tail ts)) (λ y. Some (got (place'.At y.value) y.rest)) x h in
    let p = below_prefix_sound d (tail ts) b.0 b.1 in
    let e : got (place'.At b.0.value) b.0.rest ≡ x = cc (b.2) in
    subst (SpeltPlace d ts) e (record { form = At r.0 p.form; well = (p.tight, p.well); within = p.within; tree_is = ap place'.At p.tree_is; tokens_are = star_tail ts us r.0 r.1 ∙ ap (λ v. the r.0 word.Star ∷ v) p.tokens_are })
place_at d ts None x a h =
    let b = bind_some (name ts) (λ n. place_named d n.value n.rest (after word.LBracket n.rest)) x h in
    let n = name_is ts b.0 b.1 in
    subst (λ us. SpeltPlace d us x) (sym n.tokens_are) (place_named_sound d n.spot n.text b.0.rest (after word.LBracket b.0.rest) x refl (subst (λ m. place_named d m b.0.rest (after word.LBracket b.0.rest) ≡ Some x) (sym n.is) b.2))

pub place_sound : (d : ℕ) (ts : List Token) (x : Got Place) → place d ts ≡ Some x → SpeltPlace d ts x
place_sound d ts x h = place_at d ts (after word.Star ts) x refl h

pub record SpeltSet (d : ℕ) (ts : List Token) (x : Got Assign) : Type 0 where
  pub form : SetForm
  pub well : IsWellSet form
  pub within : set_depth form ≤ d
  pub tree_is : set_tree form ≡ x.value
  pub tokens_are : ts ≡ set_tokens form x.rest

-- a place, `=` and a value
pub set_is : (d : ℕ) (ts : List Token) (p : Got Place) (us : List Token) (x : Got Assign) → SpeltPlace d ts p → after word.Assign p.rest ≡ Some us → set_value d p.value us ≡ Some x → SpeltSet d ts x
set_is d ts p us x s a h =
    let r = after_is word.Assign p.rest us a in
    let b = bind_some (value d us) (λ y. Some (got (assign_of p.value y.value) y.rest)) x h in
    let v = value_sound d us b.0 b.1 in
    let e : got (assign_of p.value b.0.value) b.0.rest ≡ x = cc (b.2) in
    subst (SpeltSet d ts) e (record {
      form = record { place = s.form; equals = r.0; value = v.form };
      well = (s.well, v.well);
      within = omega (arith, s.within, v.within);
      tree_is = ap (λ q. assign_of q (expr'.tree v.form)) s.tree_is ∙ ap (assign_of p.value) v.tree_is;
      tokens_are = s.tokens_are ∙ ap (place_tokens s.form) (r.1 ∙ ap (λ w. the r.0 word.Assign ∷ w) v.tokens_are);
    })

pub set_sound : (d : ℕ) (ts : List Token) (x : Got Assign) → set d ts ≡ Some x → SpeltSet d ts x
set_sound d ts x h =
    let a = bind_some (place d ts) (λ p. after word.Assign p.rest >>= set_value d p.value) x h in
    let b = bind_some (after word.Assign a.0.rest) (set_value d a.0.value) x a.2 in
    set_is d ts a.0 b.0 x (place_sound d ts a.0 a.1) b.1 b.2

pub record SpeltCondition (d : ℕ) (ts : List Token) (x : Got Expr) : Type 0 where
  pub opens : Spot
  pub form : Form
  pub closes : Spot
  pub well : expr'.IsWell form
  pub within : expr'.depth form ≤ d
  pub tree_is : expr'.tree form ≡ x.value
  pub tokens_are : ts ≡ the opens word.LParen ∷ expr'.tokens form (the closes word.RParen ∷ x.rest)

pub condition_sound : (d : ℕ) (ts : List Token) (x : Got Expr) → condition d ts ≡ Some x → SpeltCondition d ts x
condition_sound d ts x h =
    let a = bind_some (after word.LParen ts) (λ us. value d us >>= (λ x. after word.RParen x.rest >>= (λ vs. Some (got x.value vs)))) x h in
    let o = after_is word.LParen ts a.0 a.1 in
    let b = bind_some (value d a.0) (λ x. after word.RParen x.rest >>= (λ vs. Some (got x.value vs))) x a.2 in
    let v = value_sound d a.0 b.0 b.1 in
    let c = bind_some (after word.RParen b.0.rest) (λ vs. Some (got b.0.value vs)) x b.2 in
    let r = after_is word.RParen b.0.rest c.0 c.1 in
    let e : got b.0.value c.0 ≡ x = cc (c.2) in
    subst (SpeltCondition d ts) e (record {
      opens = o.0;
      form = v.form;
      closes = r.0;
      well = v.well;
      within = v.within;
      tree_is = v.tree_is;
      tokens_are = o.1 ∙ ap (λ w. the o.0 word.LParen ∷ w) (v.tokens_are ∙ ap (expr'.tokens v.form) r.1);
    })

record SpeltInit (d : ℕ) (ts : List Token) (x : Got (Option Init)) : Type 0 where
  form : InitForm
  well : IsWellInit form
  within : init_depth form ≤ d
  tree_is : init_tree form ≡ x.value
  tokens_are : ts ≡ init_tokens form x.rest

declared_sound : (d : ℕ) (l : Spot) (ts us : List Token) (x : Got (Option Init)) → ts ≡ the l word.Long ∷ us → declared d us ≡ Some x → SpeltInit d ts x
declared_sound d l ts us x t h =
    let a = bind_some (name us) (λ n. after word.Assign n.rest >>= (λ us. value d us >>= (λ x. Some (got (Some (init'.Declare n.value x.value)) x.rest)))) x h in
    let n = name_is us a.0 a.1 in
    let b = bind_some (after word.Assign a.0.rest) (λ us. value d us >>= (λ x. Some (got (Some (init'.Declare a.0.value x.value)) x.rest))) x a.2 in
    let q = after_is word.Assign a.0.rest b.0 b.1 in
    let c = bind_some (value d b.0) (λ x. Some (got (Some (init'.Declare a.0.value x.value)) x.rest)) x b.2 in
    let v = value_sound d b.0 c.0 c.1 in
    let e : got (Some (init'.Declare a.0.value c.0.value)) c.0.rest ≡ x = cc (c.2) in
    subst (SpeltInit d ts) e (record {
      form = Declares l n.spot n.text q.0 v.form;
      well = v.well;
      within = v.within;
      tree_is = ap (λ m. Some (init'.Declare m (expr'.tree v.form))) n.is ∙ ap (λ y. Some (init'.Declare a.0.value y)) v.tree_is;
      tokens_are = t ∙ ap (λ w. the l word.Long ∷ w) (n.tokens_are ∙ ap (λ w. a_name n.spot n.text ∷ w) (q.1 ∙ ap (λ w. the q.0 word.Assign ∷ w) v.tokens_are));
    })

init_some_sound : (d : ℕ) (ts : List Token) (o : Option (List Token)) (x : Got (Option Init)) → after word.Long ts ≡ o → init_some d ts o ≡ Some x → SpeltInit d ts x
init_some_sound d ts (Some us) x a h = let r = after_is word.Long ts us a in declared_sound d r.0 ts us x r.1 h
init_some_sound d ts None x a h =
    let b = bind_some (set d ts) (λ a. Some (got (Some (init'.Assign a.value)) a.rest)) x h in
    let s = set_sound d ts b.0 b.1 in
    let e : got (Some (init'.Assign b.0.value)) b.0.rest ≡ x = cc (b.2) in
    subst (SpeltInit d ts) e (record { form = Sets s.form; well = s.well; within = s.within; tree_is = ap (λ y. Some (init'.Assign y)) s.tree_is; tokens_are = s.tokens_are })

init_sound : (d : ℕ) (ts : List Token) (b : Bool) (x : Got (Option Init)) → init_of d ts b ≡ Some x → SpeltInit d ts x
init_sound d ts true x h =
    let e : got None ts ≡ x = cc (h) in
    subst (SpeltInit d ts) e (record { form = Nothing; well = tt; within = omega arith; tree_is = refl; tokens_are = refl })
init_sound d ts false x h = init_some_sound d ts (after word.Long ts) x refl h

record SpeltTest (d : ℕ) (ts : List Token) (x : Got (Option Expr)) : Type 0 where
  form : Option Form
  well : IsWellTest form
  within : test_depth form ≤ d
  tree_is : test_tree form ≡ x.value
  tokens_are : ts ≡ test_tokens form x.rest

test_sound : (d : ℕ) (ts : List Token) (b : Bool) (x : Got (Option Expr)) → test_of d ts b ≡ Some x → SpeltTest d ts x
test_sound d ts true x h =
    let e : got None ts ≡ x = cc (h) in
    subst (SpeltTest d ts) e (record { form = None; well = tt; within = omega arith; tree_is = refl; tokens_are = refl })
test_sound d ts false x h =
    let b = bind_some (value d ts) (λ y. Some (got (Some y.value) y.rest)) x h in
    let v = value_sound d ts b.0 b.1 in
    let e : got (Some b.0.value) b.0.rest ≡ x = cc (b.2) in
    subst (SpeltTest d ts) e (record { form = Some v.form; well = v.well; within = v.within; tree_is = ap (λ y. Some y) v.tree_is; tokens_are = v.tokens_are })

record SpeltUpdate (d : ℕ) (ts : List Token) (x : Got (Option Assign)) : Type 0 where
  form : Option SetForm
  well : IsWellUpdate form
  within : update_depth form ≤ d
  tree_is : update_tree form ≡ x.value
  tokens_are : ts ≡ update_tokens form x.rest

update_sound : (d : ℕ) (ts : List Token) (b : Bool) (x : Got (Option Assign)) → update_of d ts b ≡ Some x → SpeltUpdate d ts x
update_sound d ts true x h =
    let e : got None ts ≡ x = cc (h) in
    subst (SpeltUpdate d ts) e (record { form = None; well = tt; within = omega arith; tree_is = refl; tokens_are = refl })
update_sound d ts false x h =
    let b = bind_some (set d ts) (λ a. Some (got (Some a.value) a.rest)) x h in
    let v = set_sound d ts b.0 b.1 in
    let e : got (Some b.0.value) b.0.rest ≡ x = cc (b.2) in
    subst (SpeltUpdate d ts) e (record { form = Some v.form; well = v.well; within = v.within; tree_is = ap (λ y. Some y) v.tree_is; tokens_are = v.tokens_are })

record SpeltTestPart (d : ℕ) (ts : List Token) (x : Got (Option Expr)) : Type 0 where
  first : Spot
  form : Option Form
  second : Spot
  well : IsWellTest form
  within : test_depth form ≤ d
  tree_is : test_tree form ≡ x.value
  tokens_are : ts ≡ the first word.Semi ∷ test_tokens form (the second word.Semi ∷ x.rest)

test_part_sound : (d : ℕ) (ts : List Token) (x : Got (Option Expr)) → test_part d ts ≡ Some x → SpeltTestPart d ts x
test_part_sound d ts x h =
    let a = bind_some (after word.Semi ts) (λ us. test d us >>= (λ t. after word.Semi t.rest >>= (λ vs. Some (got t.value vs)))) x h in
    let o = after_is word.Semi ts a.0 a.1 in
    let b = bind_some (test d a.0) (λ t. after word.Semi t.rest >>= (λ vs. Some (got t.value vs))) x a.2 in
    let v = test_sound d a.0 (is_there (after word.Semi a.0)) b.0 b.1 in
    let c = bind_some (after word.Semi b.0.rest) (λ vs. Some (got b.0.value vs)) x b.2 in
    let r = after_is word.Semi b.0.rest c.0 c.1 in
    let e : got b.0.value c.0 ≡ x = cc (c.2) in
    subst (SpeltTestPart d ts) e (record {
      first = o.0;
      form = v.form;
      second = r.0;
      well = v.well;
      within = v.within;
      tree_is = v.tree_is;
      tokens_are = o.1 ∙ ap (λ w. the o.0 word.Semi ∷ w) (v.tokens_are ∙ ap (test_tokens v.form) r.1);
    })

record SpeltUpdatePart (d : ℕ) (ts : List Token) (x : Got (Option Assign)) : Type 0 where
  form : Option SetForm
  closes : Spot
  well : IsWellUpdate form
  within : update_depth form ≤ d
  tree_is : update_tree form ≡ x.value
  tokens_are : ts ≡ update_tokens form (the closes word.RParen ∷ x.rest)

update_part_sound : (d : ℕ) (ts : List Token) (x : Got (Option Assign)) → update_part d ts ≡ Some x → SpeltUpdatePart d ts x
update_part_sound d ts x h =
    let b = bind_some (update d ts) (λ u. after word.RParen u.rest >>= (λ vs. Some (got u.value vs))) x h in
    let v = update_sound d ts (is_there (after word.RParen ts)) b.0 b.1 in
    let c = bind_some (after word.RParen b.0.rest) (λ vs. Some (got b.0.value vs)) x b.2 in
    let r = after_is word.RParen b.0.rest c.0 c.1 in
    let e : got b.0.value c.0 ≡ x = cc (c.2) in
    subst (SpeltUpdatePart d ts) e (record { form = v.form; closes = r.0; well = v.well; within = v.within; tree_is = v.tree_is; tokens_are = v.tokens_are ∙ ap (update_tokens v.form) r.1 })

pub record SpeltHead (d : ℕ) (ts : List Token) (x : Got Head) : Type 0 where
  pub form : HeadForm
  pub well : IsWellHead form
  pub within : head_depth form ≤ d
  pub init_is : init_tree form.init ≡ x.value.init
  pub test_is : test_tree form.test ≡ x.value.test
  pub update_is : update_tree form.update ≡ x.value.update
  pub tokens_are : ts ≡ head_tokens form x.rest

head_is : (d : ℕ) (ts us : List Token) (o : Spot) (i : Got (Option Init)) (t : Got (Option Expr)) (u : Got (Option Assign)) → ts ≡ the o word.LParen ∷ us → SpeltInit d us i → SpeltTestPart d i.rest t → SpeltUpdatePart d t.rest u
    → SpeltHead d ts (got (head_of i.value t.value u.value) u.rest)
head_is d ts us o i t u a p q r =
    record {
      form = record { opens = o; init = p.form; first = q.first; test = q.form; second = q.second; update = r.form; closes = r.closes };
      well = (p.well, q.well, r.well);
      within = omega (arith, p.within, q.within, r.within);
      init_is = p.tree_is;
      test_is = q.tree_is;
      update_is = r.tree_is;
      tokens_are = a ∙ ap (λ w. the o word.LParen ∷ w) (p.tokens_are ∙ ap (init_tokens p.form) (q.tokens_are ∙ ap (λ w. the q.first word.Semi ∷ test_tokens q.form (the q.second word.Semi ∷ w)) r.tokens_are));
    }

pub head_sound : (d : ℕ) (ts : List Token) (x : Got Head) → head d ts ≡ Some x → SpeltHead d ts x
head_sound d ts x h =
    let a = bind_some (after word.LParen ts) (λ us. init d us >>= (λ i. test_part d i.rest >>= (λ t. update_part d t.rest >>= (λ u. Some (got (head_of i.value t.value u.value) u.rest))))) x h in
    let o = after_is word.LParen ts a.0 a.1 in
    let b = bind_some (init d a.0) (λ i. test_part d i.rest >>= (λ t. update_part d t.rest >>= (λ u. Some (got (head_of i.value t.value u.value) u.rest)))) x a.2 in
    let c = bind_some (test_part d b.0.rest) (λ t. update_part d t.rest >>= (λ u. Some (got (head_of b.0.value t.value u.value) u.rest))) x b.2 in
    let e = bind_some (update_part d c.0.rest) (λ u. Some (got (head_of b.0.value c.0.value u.value) u.rest)) x c.2 in
    let q : got (head_of b.0.value c.0.value e.0.value) e.0.rest ≡ x = cc (e.2) in
    subst (SpeltHead d ts) q (head_is d ts a.0 o.0 b.0 c.0 e.0 o.1 (init_sound d a.0 (is_there (after word.Semi a.0)) b.0 b.1) (test_part_sound d b.0.rest c.0 c.1) (update_part_sound d c.0.rest e.0 e.1))
