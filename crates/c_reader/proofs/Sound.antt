-- What is read is spelled: expressions.
use Rattle.std.proofs.Common.{◌≡◌, ℕ, zero, suc, ◌+◌, ◌<◌, ◌≤◌, List, [], ◌∷◌, Option, Some, None, refl, sym, ap, ◌∙◌, subst, arith, true, false, Bool, cond, ◌⊎◌, inl, inr, ⊎_elim}
use Rattle.std.specs.Prelude.{nat_lt, pos, negsuc, ℤ}
use Rattle.c_tree.specs.declared.token.Token.{Token}
use Rattle.c_tree.specs.declared.token.Kind.{Kind}
use Rattle.c_tree.specs.declared.token.Kind.TheVariants as kind
use Rattle.c_tree.specs.declared.token.Word.{Word}
use Rattle.c_tree.specs.declared.token.Word.TheVariants as word
use Rattle.c_tree.specs.declared.tree.Name.{Name}
use Rattle.c_tree.specs.declared.tree.Unary.{Unary}
use Rattle.c_tree.specs.declared.tree.Unary.TheVariants as unary
use Rattle.c_tree.specs.declared.tree.Binary.{Binary}
use Rattle.c_tree.specs.declared.tree.Binary.TheVariants as binary
use Rattle.c_tree.specs.declared.tree.Expr.{Expr}
use Rattle.c_tree.specs.declared.tree.Expr.TheVariants as expr'
use Rattle.c_tree.specs.Scan.{Spot, at}
use Rattle.c_tree.specs.Expressions.{Form, Num, Eof, Null, Named, Index, Address, AddressAt, Brackets, Sign, Both, the, a_name, name_at, sign, binds, mark, level, IsWell, tree, tokens, depth}
use Rattle.c_reader.specs.Reading.{Got, got, Deep, deep, ◌>>=◌, Inner, after, name_of, name, word_of, tail, closed, with_expr, index, named_of, address_of, address, signed, opening_of, opened, first, first_of, operator, operator_at, operator_of, joined, turn, more, whole, below, expr, value}
use Rattle.c_reader.proofs.TokenKinds.{lt_is, not_lt_is, after_is, spot_of}
use Rattle.c_reader.proofs.Complete.{Stops, StopsAt, below_prefix, stops_at}

-- a spelling of what was read, at its level
pub record Spelt (d least : ℕ) (ts : List Token) (x : Deep) : Type 0 where
  pub form : Form
  pub well : IsWell form
  pub tree_is : tree form ≡ x.value
  pub depth_is : depth form ≡ x.depth
  pub within : depth form ≤ d
  pub tokens_are : ts ≡ tokens form x.rest
  pub tight : least ≤ level form

-- the same, and the next token goes on with nothing tighter than its level
pub record Ready (d least : ℕ) (ts : List Token) (x : Deep) : Type 0 where
  pub spelt : Spelt d least ts x
  pub stops : Stops (level spelt.form + 1) x.rest

pub record Ended (d least : ℕ) (ts : List Token) (x : Deep) : Type 0 where
  pub spelt : Spelt d least ts x
  pub stops : Stops least x.rest

pub bind_some : {A B : Type 0} (o : Option A) (f : A → Option B) (y : B) → (o >>= f) ≡ Some y → (x : A) × (o ≡ Some x) × (f x ≡ Some y)
bind_some None f y h = absurd cc
bind_some (Some x) f y h = (x, refl, h)

-- which way a test went
chosen : {A : Type 0} (b : Bool) (x y z : A) → cond b x y ≡ z → ((b ≡ true) × (x ≡ z)) ⊎ ((b ≡ false) × (y ≡ z))
chosen true x y z h = inl (refl, h)
chosen false x y z h = inr (refl, h)

operator_word : (w : Word) (op : Binary) → operator_of w ≡ Some op → w ≡ mark op
operator_word word.OrOr op h = let e : binary.Or ≡ op = cc in ap mark e
operator_word word.AndAnd op h = let e : binary.And ≡ op = cc in ap mark e
operator_word word.Bar op h = let e : binary.BitOr ≡ op = cc in ap mark e
operator_word word.Caret op h = let e : binary.BitXor ≡ op = cc in ap mark e
operator_word word.Ampersand op h = let e : binary.BitAnd ≡ op = cc in ap mark e
operator_word word.EqualEqual op h = let e : binary.Equal ≡ op = cc in ap mark e
operator_word word.Unequal op h = let e : binary.Unequal ≡ op = cc in ap mark e
operator_word word.Less op h = let e : binary.Less ≡ op = cc in ap mark e
operator_word word.AtMost op h = let e : binary.AtMost ≡ op = cc in ap mark e
operator_word word.Greater op h = let e : binary.Greater ≡ op = cc in ap mark e
operator_word word.AtLeast op h = let e : binary.AtLeast ≡ op = cc in ap mark e
operator_word word.ShiftLeft op h = let e : binary.Shl ≡ op = cc in ap mark e
operator_word word.ShiftRight op h = let e : binary.Shr ≡ op = cc in ap mark e
operator_word word.Plus op h = let e : binary.Add ≡ op = cc in ap mark e
operator_word word.Minus op h = let e : binary.Sub ≡ op = cc in ap mark e
operator_word word.Star op h = let e : binary.Mul ≡ op = cc in ap mark e
operator_word word.Slash op h = let e : binary.Div ≡ op = cc in ap mark e
operator_word word.Percent op h = let e : binary.Rem ≡ op = cc in ap mark e
operator_word _ op h = absurd cc

operator_kind : (k : Kind) (op : Binary) → operator_at (word_of k) ≡ Some op → k ≡ kind.Word (mark op)
operator_kind (kind.Word w) op h = ap kind.Word (operator_word w op h)
operator_kind _ op h = absurd cc

operator_is : (ts : List Token) (op : Binary) → operator ts ≡ Some op → (s : Spot) × (ts ≡ the s (mark op) ∷ tail ts)
operator_is [] op h = absurd cc
operator_is (t ∷ ts) op h = (spot_of t, ap (λ k. at (spot_of t) k ∷ ts) (operator_kind t.kind op h))

-- a name stood in front
pub record Names (ts : List Token) (n : Got Name) : Type 0 where
  pub spot : Spot
  pub text : List ℕ
  pub is : name_at spot text ≡ n.value
  pub tokens_are : ts ≡ a_name spot text ∷ n.rest

name_kind : (s : Spot) (k : Kind) (ts : List Token) (n : Got Name) → name_of k s.constants ts ≡ Some n → Names (at s k ∷ ts) n
name_kind s (kind.Name x) ts n h =
    let e : got (name_at s x) ts ≡ n = cc in
    subst (Names (a_name s x ∷ ts)) e (record { spot = s; text = x; is = refl; tokens_are = refl })
name_kind s (kind.Num v) ts n h = absurd cc
name_kind s (kind.Format ps) ts n h = absurd cc
name_kind s (kind.Word w) ts n h = absurd cc

pub name_is : (ts : List Token) (n : Got Name) → name ts ≡ Some n → Names ts n
name_is [] n h = absurd cc
name_is (t ∷ ts) n h = name_kind (spot_of t) t.kind ts n h

-- a reader of expressions within less than the depth d
abbrev pub Good : ℕ → Inner → Type 0
Good d inner = (least : ℕ) (ts : List Token) (x : Deep) → least ≤ 11 → inner least ts ≡ Some x → (c : ℕ) × (d ≡ suc c) × Ended c least ts x

-- an expression up to the word that closes it
pub record Between (d : ℕ) (w : Word) (ts : List Token) (x : Deep) : Type 0 where
  pub form : Form
  pub closes : Spot
  pub well : IsWell form
  pub tree_is : tree form ≡ x.value
  pub depth_is : depth form + 1 ≡ x.depth
  pub within : depth form + 1 ≤ d
  pub tokens_are : ts ≡ tokens form (the closes w ∷ x.rest)

pub between_sound : (d : ℕ) (inner : Inner) → Good d inner → (w : Word) (ts : List Token) (x : Deep) → (inner 1 ts >>= closed w) ≡ Some x → Between d w ts x
between_sound d inner good w ts x h =
    let a = bind_some (inner 1 ts) (closed w) x h in
    let b = good 1 ts a.0 (omega arith) a.1 in
    let s = b.2.spelt in
    let c = bind_some (after w a.0.rest) (λ us. Some (deep a.0.value (a.0.depth + 1) us)) x a.2 in
    let r = after_is w a.0.rest c.0 c.1 in
    let e : deep a.0.value (a.0.depth + 1) c.0 ≡ x = cc (c.2) in
    subst (Between d w ts) e (record {
      form = s.form;
      closes = r.0;
      well = s.well;
      tree_is = s.tree_is;
      depth_is = ap (λ n. n + 1) s.depth_is;
      within = omega (arith, s.within, b.1);
      tokens_are = s.tokens_are ∙ ap (tokens s.form) r.1;
    })

-- an index behind its bracket
pub record Indexed (d : ℕ) (ts : List Token) (x : Deep) : Type 0 where
  pub opens : Spot
  pub between : Between d word.RBracket (tail ts) x
  pub tokens_are : ts ≡ the opens word.LBracket ∷ tail ts

pub index_sound : (d : ℕ) (inner : Inner) → Good d inner → (ts us : List Token) (x : Deep) → after word.LBracket ts ≡ Some us → index inner ts ≡ Some x → Indexed d ts x
index_sound d inner good ts us x o h =
    let r = after_is word.LBracket ts us o in
    record { opens = r.0; between = between_sound d inner good word.RBracket (tail ts) x h; tokens_are = r.1 ∙ ap (λ v. the r.0 word.LBracket ∷ tail v) (sym r.1) }

named_plain : (d : ℕ) (s : Spot) (t : List ℕ) (ts : List Token) (x : Deep) → Some (deep (expr'.Name (name_at s t)) 0 ts) ≡ Some x → Spelt d 11 (a_name s t ∷ ts) x
named_plain d s t ts x h =
    let e : deep (expr'.Name (name_at s t)) 0 ts ≡ x = cc in
    subst (Spelt d 11 (a_name s t ∷ ts)) e (record { form = Named s t; well = tt; tree_is = refl; depth_is = refl; within = omega arith; tokens_are = refl; tight = omega arith })

with_is : (make : Expr → Expr) (y x : Deep) → with_expr make y ≡ Some x → deep (make y.value) y.depth y.rest ≡ x
with_is make y x h = cc

index_tokens : (ts us vs : List Token) (o : Spot) (f : Form) (c : Spot) → ts ≡ the o word.LBracket ∷ us → us ≡ tokens f (the c word.RBracket ∷ vs) → ts ≡ the o word.LBracket ∷ tokens f (the c word.RBracket ∷ vs)
index_tokens ts us vs o f c a b = a ∙ ap (λ v. the o word.LBracket ∷ v) b

named_indexed : (d : ℕ) (inner : Inner) → Good d inner → (s : Spot) (t : List ℕ) (ts us : List Token) (x : Deep) → after word.LBracket ts ≡ Some us → (index inner ts >>= with_expr (expr'.Index (name_at s t))) ≡ Some x → Spelt d 11 (a_name s t ∷ ts) x
named_indexed d inner good s t ts us x o h =
    let a = bind_some (index inner ts) (with_expr (expr'.Index (name_at s t))) x h in
    let i = index_sound d inner good ts us a.0 o a.1 in
    let b = i.between in
    subst (Spelt d 11 (a_name s t ∷ ts)) (with_is (expr'.Index (name_at s t)) a.0 x a.2) (record {
      form = Index s t i.opens b.form b.closes;
      well = b.well;
      tree_is = ap (expr'.Index (name_at s t)) b.tree_is;
      depth_is = b.depth_is;
      within = b.within;
      tokens_are = ap (λ v. a_name s t ∷ v) (index_tokens ts (tail ts) a.0.rest i.opens b.form b.closes i.tokens_are b.tokens_are);
      tight = omega arith;
    })

named_sound : (d : ℕ) (inner : Inner) → Good d inner → (s : Spot) (t : List ℕ) (ts : List Token) (o : Option (List Token)) (x : Deep) → after word.LBracket ts ≡ o → named_of inner (name_at s t) ts o ≡ Some x → Spelt d 11 (a_name s t ∷ ts) x
named_sound d inner good s t ts None x o h = named_plain d s t ts x h
named_sound d inner good s t ts (Some us) x o h = named_indexed d inner good s t ts us x o h

address_plain : (d : ℕ) (l s : Spot) (t : List ℕ) (ts : List Token) (x : Deep) → Some (deep (expr'.Address (name_at s t) None) 0 ts) ≡ Some x → Spelt d 11 (the l word.Ampersand ∷ a_name s t ∷ ts) x
address_plain d l s t ts x h =
    let e : deep (expr'.Address (name_at s t) None) 0 ts ≡ x = cc in
    subst (Spelt d 11 (the l word.Ampersand ∷ a_name s t ∷ ts)) e (record { form = Address l s t; well = tt; tree_is = refl; depth_is = refl; within = omega arith; tokens_are = refl; tight = omega arith })

abbrev pub address_at : Name → Expr → Expr
address_at n e = expr'.Address n (Some e)

address_indexed : (d : ℕ) (inner : Inner) → Good d inner → (l s : Spot) (t : List ℕ) (ts us : List Token) (x : Deep) → after word.LBracket ts ≡ Some us → (index inner ts >>= with_expr (address_at (name_at s t))) ≡ Some x → Spelt d 11 (the l word.Ampersand ∷ a_name s t ∷ ts) x
address_indexed d inner good l s t ts us x o h =
    let a = bind_some (index inner ts) (with_expr (address_at (name_at s t))) x h in
    let i = index_sound d inner good ts us a.0 o a.1 in
    let b = i.between in
    subst (Spelt d 11 (the l word.Ampersand ∷ a_name s t ∷ ts)) (with_is (address_at (name_at s t)) a.0 x a.2) (record {
      form = AddressAt l s t i.opens b.form b.closes;
      well = b.well;
      tree_is = ap (address_at (name_at s t)) b.tree_is;
      depth_is = b.depth_is;
      within = b.within;
      tokens_are = ap (λ v. the l word.Ampersand ∷ a_name s t ∷ v) (index_tokens ts (tail ts) a.0.rest i.opens b.form b.closes i.tokens_are b.tokens_are);
      tight = omega arith;
    })

address_of_sound : (d : ℕ) (inner : Inner) → Good d inner → (l s : Spot) (t : List ℕ) (ts : List Token) (o : Option (List Token)) (x : Deep) → after word.LBracket ts ≡ o → address_of inner (name_at s t) ts o ≡ Some x → Spelt d 11 (the l word.Ampersand ∷ a_name s t ∷ ts) x
address_of_sound d inner good l s t ts None x o h = address_plain d l s t ts x h
address_of_sound d inner good l s t ts (Some us) x o h = address_indexed d inner good l s t ts us x o h

address_sound : (d : ℕ) (inner : Inner) → Good d inner → (l : Spot) (ts : List Token) (x : Deep) → address inner ts ≡ Some x → Spelt d 11 (the l word.Ampersand ∷ ts) x
address_sound d inner good l ts x h =
    let a = bind_some (name ts) (λ n. address_of inner n.value n.rest (after word.LBracket n.rest)) x h in
    let n = name_is ts a.0 a.1 in
    subst (λ us. Spelt d 11 (the l word.Ampersand ∷ us) x) (sym n.tokens_are) (address_of_sound d inner good l n.spot n.text a.0.rest (after word.LBracket a.0.rest) x refl (subst (λ m. address_of inner m a.0.rest (after word.LBracket a.0.rest) ≡ Some x) (sym n.is) a.2))

number_sound : (d : ℕ) (f : Form) (n : ℤ) (ts : List Token) (us : List Token) (x : Deep) → IsWell f → tree f ≡ expr'.Num n → depth f ≡ 0 → level f ≡ 11 → us ≡ tokens f ts → Some (deep (expr'.Num n) 0 ts) ≡ Some x → Spelt d 11 us x
number_sound d f n ts us x w t dp l e h =
    let q : deep (expr'.Num n) 0 ts ≡ x = cc (h) in
    subst (Spelt d 11 us) q (record { form = f; well = w; tree_is = t; depth_is = dp; within = omega arith; tokens_are = e; tight = omega arith })

brackets_sound : (d : ℕ) (inner : Inner) → Good d inner → (o : Spot) (ts : List Token) (x : Deep) → (inner 1 ts >>= closed word.RParen) ≡ Some x → Spelt d 11 (the o word.LParen ∷ ts) x
brackets_sound d inner good o ts x h =
    let b = between_sound d inner good word.RParen ts x h in
    record {
      form = Brackets o b.form b.closes;
      well = b.well;
      tree_is = b.tree_is;
      depth_is = b.depth_is;
      within = b.within;
      tokens_are = ap (λ v. the o word.LParen ∷ v) b.tokens_are;
      tight = omega arith;
    }

sign_sound : (d : ℕ) (inner : Inner) → Good d inner → (s : Spot) (op : Unary) (ts : List Token) (x : Deep) → (inner 11 ts >>= signed op) ≡ Some x → Spelt d 11 (the s (sign op) ∷ ts) x
sign_sound d inner good s op ts x h =
    let a = bind_some (inner 11 ts) (signed op) x h in
    let b = good 11 ts a.0 (omega arith) a.1 in
    let u = b.2.spelt in
    let e : deep (expr'.Unary op a.0.value) (a.0.depth + 1) a.0.rest ≡ x = cc (a.2) in
    subst (Spelt d 11 (the s (sign op) ∷ ts)) e (record {
      form = Sign s op u.form;
      well = (u.tight, u.well);
      tree_is = ap (expr'.Unary op) u.tree_is;
      depth_is = ap (λ n. n + 1) u.depth_is;
      within = omega (arith, u.within, b.1);
      tokens_are = ap (λ v. the s (sign op) ∷ v) u.tokens_are;
      tight = omega arith;
    })

word_sound : (d : ℕ) (inner : Inner) → Good d inner → (s : Spot) (w : Word) (ts : List Token) (x : Deep) → opened inner ts (opening_of w) ≡ Some x → Spelt d 11 (the s w ∷ ts) x
word_sound d inner good s word.Eof ts x h = number_sound d (Eof s) (negsuc 0) ts (the s word.Eof ∷ ts) x tt refl refl refl refl h
word_sound d inner good s word.Null ts x h = number_sound d (Null s) (pos 0) ts (the s word.Null ∷ ts) x tt refl refl refl refl h
word_sound d inner good s word.LParen ts x h = brackets_sound d inner good s ts x h
word_sound d inner good s word.Ampersand ts x h = address_sound d inner good s ts x h
word_sound d inner good s word.Minus ts x h = sign_sound d inner good s unary.Neg ts x h
word_sound d inner good s word.Bang ts x h = sign_sound d inner good s unary.Not ts x h
word_sound d inner good s word.Tilde ts x h = sign_sound d inner good s unary.Inv ts x h
word_sound d inner good s word.Star ts x h = sign_sound d inner good s unary.Deref ts x h
word_sound d inner good s _ ts x h = absurd cc

first_kind : (d : ℕ) (inner : Inner) → Good d inner → (s : Spot) (k : Kind) (ts : List Token) (x : Deep) → first_of inner s.constants ts k ≡ Some x → Spelt d 11 (at s k ∷ ts) x
first_kind d inner good s (kind.Num n) ts x h = number_sound d (Num s n) n ts (at s (kind.Num n) ∷ ts) x tt refl refl refl refl h
first_kind d inner good s (kind.Name t) ts x h = named_sound d inner good s t ts (after word.LBracket ts) x refl h
first_kind d inner good s (kind.Format ps) ts x h = absurd cc
first_kind d inner good s (kind.Word w) ts x h = word_sound d inner good s w ts x h

first_sound : (d : ℕ) (inner : Inner) → Good d inner → (ts : List Token) (x : Deep) → first inner ts ≡ Some x → Spelt d 11 ts x
first_sound d inner good [] x h = absurd cc
first_sound d inner good (t ∷ ts) x h = first_kind d inner good (spot_of t) t.kind ts x h

joined_ready : (d c least : ℕ) (ts : List Token) (x z : Deep) (op : Binary) → Ready d least ts x → d ≡ suc c → operator x.rest ≡ Some op → least ≤ binds op → x.depth < d → Ended c (binds op + 1) (tail x.rest) z → Ready d least ts (joined op x z)
joined_ready d c least ts x z op r dc o l dx en =
    let s = r.spelt in
    let u = en.spelt in
    let m = operator_is x.rest op o in
    let st : binds op < level s.form + 1 = subst (StopsAt (level s.form + 1)) o r.stops in
    record {
      spelt = record {
        form = Both s.form m.0 op u.form;
        well = (omega arith, omega (arith, u.tight), s.well, u.well);
        tree_is = cc (s.tree_is, u.tree_is);
        depth_is = cc (s.depth_is, u.depth_is);
        within = omega arith;
        tokens_are = s.tokens_are ∙ ap (tokens s.form) (m.1 ∙ ap (λ v. the m.0 (mark op) ∷ v) u.tokens_are);
        tight = l;
      };
      stops = en.stops;
    }

turn_sound : (d : ℕ) (inner : Inner) → Good d inner → (least : ℕ) (ts : List Token) (go : Deep → Option Deep) (x y : Deep) (o : Option Binary) → operator x.rest ≡ o → Ready d least ts x
    → ((z : Deep) → Ready d least ts z → go z ≡ Some y → Ended d least ts y) → turn inner d least go x o ≡ Some y → Ended d least ts y
turn_sound d inner good least ts go x y None is r k h =
    let e : x ≡ y = cc in
    subst (Ended d least ts) e (record { spelt = r.spelt; stops = subst (StopsAt least) (sym is) tt })
turn_sound d inner good least ts go x y (Some op) is r k h =
    ⊎_elim
    (λ p. let e : x ≡ y = cc (p.1) in
    subst (Ended d least ts) e (record { spelt = r.spelt; stops = subst (StopsAt least) (sym is) (lt_is (binds op) least p.0) }))
    (λ p. ⊎_elim
    (λ q. let a = bind_some (inner (binds op + 1) (tail x.rest)) (λ z. go (joined op x z)) y q.1 in
    let b = good (binds op + 1) (tail x.rest) a.0 (omega (arith, below_prefix op)) a.1 in
    k (joined op x a.0) (joined_ready d b.0 least ts x a.0 op r b.1 is (not_lt_is (binds op) least p.0) (lt_is x.depth d q.0) b.2) a.2)
    (λ q. let e : None ≡ Some y = q.1 in absurd cc) (chosen (nat_lt x.depth d) _ _ _ p.1))
    (chosen (nat_lt (binds op) least) _ _ _ h)

more_sound : (d : ℕ) (inner : Inner) → Good d inner → (least : ℕ) (ts : List Token) (n : ℕ) (x y : Deep) → Ready d least ts x → more inner d n least x ≡ Some y → Ended d least ts y
more_sound d inner good least ts zero x y r h = turn_sound d inner good least ts (λ _. None) x y (operator x.rest) refl r (λ z rz e. absurd cc) h
more_sound d inner good least ts (suc n) x y r h = turn_sound d inner good least ts (more inner d n least) x y (operator x.rest) refl r (λ z rz e. more_sound d inner good least ts n z y rz e) h

whole_sound : (d : ℕ) (inner : Inner) → Good d inner → (least : ℕ) (ts : List Token) (y : Deep) → least ≤ 11 → whole inner d least ts ≡ Some y → Ended d least ts y
whole_sound d inner good least ts y l h =
    let a = bind_some (first inner ts) (more inner d d least) y h in
    let s = first_sound d inner good ts a.0 a.1 in
    more_sound d inner good least ts d a.0 y (record {
      spelt = record { form = s.form; well = s.well; tree_is = s.tree_is; depth_is = s.depth_is; within = s.within; tokens_are = s.tokens_are; tight = omega (arith, s.tight) };
      stops = stops_at (level s.form + 1) (operator a.0.rest) (omega (arith, s.tight));
    }) a.2

pub good : (d : ℕ) → Good d (below d)
unfolding below
good zero least ts x l h = absurd cc
good (suc d) least ts x l h = (d, refl, whole_sound d (below d) (good d) least ts x l h)

-- a spelling of an expression that was read within the depth
pub record SpeltValue (d : ℕ) (ts : List Token) (x : Got Expr) : Type 0 where
  pub form : Form
  pub well : IsWell form
  pub tree_is : tree form ≡ x.value
  pub within : depth form ≤ d
  pub tokens_are : ts ≡ tokens form x.rest

expr_sound : (d : ℕ) (ts : List Token) (x : Deep) → expr d 1 ts ≡ Some x → Spelt d 1 ts x
unfolding expr
expr_sound d ts x h = (whole_sound d (below d) (good d) 1 ts x (omega arith) h).spelt

pub value_sound : (d : ℕ) (ts : List Token) (x : Got Expr) → value d ts ≡ Some x → SpeltValue d ts x
value_sound d ts x h =
    let a = bind_some (expr d 1 ts) (λ y. Some (got y.value y.rest)) x h in
    let s = expr_sound d ts a.0 a.1 in
    let e : got a.0.value a.0.rest ≡ x = cc (a.2) in
    subst (SpeltValue d ts) e (record { form = s.form; well = s.well; tree_is = s.tree_is; within = s.within; tokens_are = s.tokens_are })

-- an index or a prefix that was read
pub below_index : (d : ℕ) (ts us : List Token) (x : Deep) → after word.LBracket ts ≡ Some us → index (below d) ts ≡ Some x → Indexed d ts x
below_index d ts us x o h = index_sound d (below d) (good d) ts us x o h

pub record Prefix (d : ℕ) (ts : List Token) (x : Deep) : Type 0 where
  pub form : Form
  pub well : IsWell form
  pub tight : 11 ≤ level form
  pub tree_is : tree form ≡ x.value
  pub within : depth form + 1 ≤ d
  pub tokens_are : ts ≡ tokens form x.rest

pub below_prefix_sound : (d : ℕ) (ts : List Token) (x : Deep) → below d 11 ts ≡ Some x → Prefix d ts x
below_prefix_sound d ts x h =
    let b = good d 11 ts x (omega arith) h in
    let s = b.2.spelt in
    record { form = s.form; well = s.well; tight = s.tight; tree_is = s.tree_is; within = omega (arith, s.within, b.1); tokens_are = s.tokens_are }
