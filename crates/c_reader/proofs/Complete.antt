-- What is spelled is read: expressions.
use Rattle.std.proofs.Common.{◌≡◌, ℕ, zero, suc, ◌+◌, ◌<◌, ◌≤◌, List, ◌∷◌, Option, Some, None, refl, sym, ap, ◌∙◌, subst, arith, false}
use Rattle.std.specs.Prelude.{max}
use Rattle.c_tree.specs.declared.token.Token.{Token}
use Rattle.c_tree.specs.declared.token.Word.{Word}
use Rattle.c_tree.specs.declared.token.Word.TheVariants as word
use Rattle.c_tree.specs.declared.tree.Unary.{Unary}
use Rattle.c_tree.specs.declared.tree.Unary.TheVariants as unary
use Rattle.c_tree.specs.declared.tree.Binary.{Binary}
use Rattle.c_tree.specs.declared.tree.Binary.TheVariants as binary
use Rattle.c_tree.specs.declared.tree.Expr.TheVariants as expr'
use Rattle.c_tree.specs.Scan.{Spot}
use Rattle.c_tree.specs.Expressions.{Form, Num, Eof, Null, Named, Index, Address, AddressAt, Brackets, Sign, Both, the, name_at, sign, binds, mark, level, IsWell, tree, tokens, depth}
use Rattle.c_reader.specs.Reading.{got, Deep, deep, ◌>>=◌, Inner, after, is_name, named_of, address_of, with_expr, closed, signed, first, operator, joined, turn, more, whole, below, expr, value}
use Rattle.c_reader.proofs.TokenKinds.{lt_true, lt_false}

-- the next token binds looser than this
abbrev pub StopsAt : ℕ → Option Binary → Type 0
StopsAt l None = Unit {0}
StopsAt l (Some op) = binds op < l

abbrev pub Stops : ℕ → List Token → Type 0
Stops l ts = StopsAt l (operator ts)

-- no index goes on
abbrev pub NoIndex : List Token → Type 0
NoIndex ts = after word.LBracket ts ≡ None

pub below_prefix : (op : Binary) → binds op < 11
below_prefix binary.Or = omega arith
below_prefix binary.And = omega arith
below_prefix binary.BitOr = omega arith
below_prefix binary.BitXor = omega arith
below_prefix binary.BitAnd = omega arith
below_prefix binary.Equal = omega arith
below_prefix binary.Unequal = omega arith
below_prefix binary.Less = omega arith
below_prefix binary.AtMost = omega arith
below_prefix binary.Greater = omega arith
below_prefix binary.AtLeast = omega arith
below_prefix binary.Shl = omega arith
below_prefix binary.Shr = omega arith
below_prefix binary.Add = omega arith
below_prefix binary.Sub = omega arith
below_prefix binary.Mul = omega arith
below_prefix binary.Div = omega arith
below_prefix binary.Rem = omega arith

pub stops_at : (l : ℕ) (o : Option Binary) → 11 ≤ l → StopsAt l o
stops_at l None h = tt
stops_at l (Some op) h = omega (arith, below_prefix op)

stops_looser : (k l : ℕ) (o : Option Binary) → k ≤ l → StopsAt k o → StopsAt l o
stops_looser k l None h s = tt
stops_looser k l (Some op) h s = omega arith

operator-mark : (s : Spot) (op : Binary) (ts : List Token) → operator (the s (mark op) ∷ ts) ≡ Some op
operator-mark s binary.Or ts = refl
operator-mark s binary.And ts = refl
operator-mark s binary.BitOr ts = refl
operator-mark s binary.BitXor ts = refl
operator-mark s binary.BitAnd ts = refl
operator-mark s binary.Equal ts = refl
operator-mark s binary.Unequal ts = refl
operator-mark s binary.Less ts = refl
operator-mark s binary.AtMost ts = refl
operator-mark s binary.Greater ts = refl
operator-mark s binary.AtLeast ts = refl
operator-mark s binary.Shl ts = refl
operator-mark s binary.Shr ts = refl
operator-mark s binary.Add ts = refl
operator-mark s binary.Sub ts = refl
operator-mark s binary.Mul ts = refl
operator-mark s binary.Div ts = refl
operator-mark s binary.Rem ts = refl

pub no_index_mark : (s : Spot) (op : Binary) (ts : List Token) → NoIndex (the s (mark op) ∷ ts)
no_index_mark s binary.Or ts = refl
no_index_mark s binary.And ts = refl
no_index_mark s binary.BitOr ts = refl
no_index_mark s binary.BitXor ts = refl
no_index_mark s binary.BitAnd ts = refl
no_index_mark s binary.Equal ts = refl
no_index_mark s binary.Unequal ts = refl
no_index_mark s binary.Less ts = refl
no_index_mark s binary.AtMost ts = refl
no_index_mark s binary.Greater ts = refl
no_index_mark s binary.AtLeast ts = refl
no_index_mark s binary.Shl ts = refl
no_index_mark s binary.Shr ts = refl
no_index_mark s binary.Add ts = refl
no_index_mark s binary.Sub ts = refl
no_index_mark s binary.Mul ts = refl
no_index_mark s binary.Div ts = refl
no_index_mark s binary.Rem ts = refl

turn_stops : (inner : Inner) (d least : ℕ) (go : Deep → Option Deep) (x : Deep) (o : Option Binary) → StopsAt least o → turn inner d least go x o ≡ Some x
turn_stops inner d least go x None s = refl
turn_stops inner d least go x (Some op) s = rw (lt_true (binds op) least s) refl

more_stops : (inner : Inner) (d n least : ℕ) (x : Deep) → Stops least x.rest → more inner d n least x ≡ Some x
more_stops inner d zero least x s = turn_stops inner d least (λ _. None) x (operator x.rest) s
more_stops inner d (suc n) least x s = turn_stops inner d least (more inner d n least) x (operator x.rest) s

-- one turn of the loop
more_turn : (inner : Inner) (d n least : ℕ) (x y : Deep) (s : Spot) (op : Binary) (ts : List Token) → x.rest ≡ the s (mark op) ∷ ts → least ≤ binds op → x.depth < d → inner (binds op + 1) ts ≡ Some y → more inner d (suc n) least x ≡ more inner d n least (joined op x y)
more_turn inner d n least x y s op ts r b h i =
    ap (turn inner d least (more inner d n least) x) (ap operator r ∙ operator-mark s op ts)
    ∙ rw (lt_false (binds op) least b, lt_true x.depth d h, r, i) refl

-- after a spelling the reader goes on with its tree
pub record Reads (f : Form) (d least : ℕ) (rest : List Token) : Type 0 where
  pub turns : ℕ
  pub enough : d ≤ turns + depth f
  pub reads : whole (below d) d least (tokens f rest) ≡ more (below d) d turns least (deep (tree f) (depth f) rest)

whole_first : (inner : Inner) (d least : ℕ) (ts : List Token) (x : Deep) → first inner ts ≡ Some x → whole inner d least ts ≡ more inner d d least x
whole_first inner d least ts x h = ap (λ r. r >>= more inner d d least) h

-- a spelling that is read in the first step
at_once : (f : Form) (d least : ℕ) (rest : List Token) → first (below d) (tokens f rest) ≡ Some (deep (tree f) (depth f) rest) → Reads f d least rest
at_once f d least rest h = record { turns = d; enough = omega arith; reads = whole_first (below d) d least (tokens f rest) _ h }

reads_some : (f : Form) (d least : ℕ) (rest : List Token) → Reads f d least rest → Stops least rest → whole (below d) d least (tokens f rest) ≡ Some (deep (tree f) (depth f) rest)
reads_some f d least rest r s = r.reads ∙ more_stops (below d) d r.turns least _ s

pos_binds : (op : Binary) → 1 ≤ binds op
pos_binds binary.Or = omega arith
pos_binds binary.And = omega arith
pos_binds binary.BitOr = omega arith
pos_binds binary.BitXor = omega arith
pos_binds binary.BitAnd = omega arith
pos_binds binary.Equal = omega arith
pos_binds binary.Unequal = omega arith
pos_binds binary.Less = omega arith
pos_binds binary.AtMost = omega arith
pos_binds binary.Greater = omega arith
pos_binds binary.AtLeast = omega arith
pos_binds binary.Shl = omega arith
pos_binds binary.Shr = omega arith
pos_binds binary.Add = omega arith
pos_binds binary.Sub = omega arith
pos_binds binary.Mul = omega arith
pos_binds binary.Div = omega arith
pos_binds binary.Rem = omega arith

pos_level : (f : Form) → 1 ≤ level f
pos_level (Both f s op g) = pos_binds op
pos_level _ = omega arith

stops_mark : (k : ℕ) (s : Spot) (op : Binary) (ts : List Token) → binds op < k → Stops k (the s (mark op) ∷ ts)
stops_mark k s op ts h = subst (StopsAt k) (sym (operator-mark s op ts)) h

first_signed : (inner : Inner) (s : Spot) (op : Unary) (ts : List Token) → first inner (the s (sign op) ∷ ts) ≡ (inner 11 ts >>= signed op)
first_signed inner s unary.Neg ts = refl
first_signed inner s unary.Not ts = refl
first_signed inner s unary.Inv ts = refl
first_signed inner s unary.Deref ts = refl

-- the step at a two-sided operator, with the turns that are left
both_reads : (s : Spot) (op : Binary) (f g : Form) (d least : ℕ) (rest : List Token) (n : ℕ) → d ≤ n + depth f → max (depth f) (depth g) + 1 ≤ d → least ≤ binds op
    → whole (below d) d least (tokens f (the s (mark op) ∷ tokens g rest)) ≡ more (below d) d n least (deep (tree f) (depth f) (the s (mark op) ∷ tokens g rest))
    → below d (binds op + 1) (tokens g rest) ≡ Some (deep (tree g) (depth g) rest)
    → Reads (Both f s op g) d least rest
both_reads s op f g d least rest zero e h b a i = absurd (omega arith)
both_reads s op f g d least rest (suc n) e h b a i =
    record {
      turns = n;
      enough = omega arith;
      reads = a ∙ more_turn (below d) d n least _ (deep (tree g) (depth g) rest) s op (tokens g rest) refl b (omega arith) i;
    }

reads : (f : Form) (d least : ℕ) (rest : List Token) → IsWell f → depth f ≤ d → least ≤ level f → Stops (level f + 1) rest → NoIndex rest → Reads f d least rest
unfolding below
reads (Num s n) d least rest w h b st ni = at_once (Num s n) d least rest refl
reads (Eof s) d least rest w h b st ni = at_once (Eof s) d least rest refl
reads (Null s) d least rest w h b st ni = at_once (Null s) d least rest refl
reads (Named s x) d least rest w h b st ni = at_once (Named s x) d least rest (ap (named_of (below d) (name_at s x) rest) ni)
reads (Index s x o f c) zero least rest w h b st ni = absurd (omega arith)
reads (Index s x o f c) (suc d) least rest w h b st ni =
    let i = reads_some f d 1 (the c word.RBracket ∷ rest) (reads f d 1 (the c word.RBracket ∷ rest) w (omega arith) (pos_level f) tt refl) tt in
    at_once (Index s x o f c) (suc d) least rest (ap (λ r. (r >>= closed word.RBracket) >>= with_expr (expr'.Index (name_at s x))) i)
reads (Address s n x) d least rest w h b st ni = at_once (Address s n x) d least rest (ap (address_of (below d) (name_at n x) rest) ni)
reads (AddressAt s n x o f c) zero least rest w h b st ni = absurd (omega arith)
reads (AddressAt s n x o f c) (suc d) least rest w h b st ni =
    let i = reads_some f d 1 (the c word.RBracket ∷ rest) (reads f d 1 (the c word.RBracket ∷ rest) w (omega arith) (pos_level f) tt refl) tt in
    at_once (AddressAt s n x o f c) (suc d) least rest (ap (λ r. (r >>= closed word.RBracket) >>= with_expr (λ e. expr'.Address (name_at n x) (Some e))) i)
reads (Brackets o f c) zero least rest w h b st ni = absurd (omega arith)
reads (Brackets o f c) (suc d) least rest w h b st ni =
    let i = reads_some f d 1 (the c word.RParen ∷ rest) (reads f d 1 (the c word.RParen ∷ rest) w (omega arith) (pos_level f) tt refl) tt in
    at_once (Brackets o f c) (suc d) least rest (ap (λ r. r >>= closed word.RParen) i)
reads (Sign s op f) zero least rest w h b st ni = absurd (omega arith)
reads (Sign s op f) (suc d) least rest w h b st ni =
    let i = reads_some f d 11 rest (reads f d 11 rest w.1 (omega arith) w.0 (stops_at (level f + 1) (operator rest) (omega (arith, w.0))) ni) (stops_at 11 (operator rest) (omega arith)) in
    at_once (Sign s op f) (suc d) least rest (first_signed (below (suc d)) s op (tokens f rest) ∙ ap (λ r. r >>= signed op) i)
reads (Both f s op g) zero least rest w h b st ni = absurd (omega arith)
reads (Both f s op g) (suc d) least rest w h b st ni =
    let a = reads f (suc d) least (the s (mark op) ∷ tokens g rest) w.2 (omega arith) (omega arith) (stops_mark (level f + 1) s op (tokens g rest) (omega arith)) (no_index_mark s op (tokens g rest)) in
    let i = reads_some g d (binds op + 1) rest (reads g d (binds op + 1) rest w.3 (omega arith) (omega arith) (stops_looser (binds op + 1) (level g + 1) (operator rest) (omega arith) st) ni) st in
    both_reads s op f g (suc d) least rest a.turns a.enough h b a.reads i

-- no expression goes on with the token in front, and it opens no brackets
pub record Ends (ts : List Token) : Type 0 where
  pub no_operator : operator ts ≡ None
  pub no_index : after word.LBracket ts ≡ None
  pub no_call : after word.LParen ts ≡ None
  pub no_equals : after word.Assign ts ≡ None
  pub no_name : is_name ts ≡ false

-- what is spelled within the depth is read, up to a token with which no expression goes on
pub value_read : (d : ℕ) (f : Form) (rest : List Token) → IsWell f → depth f ≤ d → Ends rest → value d (tokens f rest) ≡ Some (got (tree f) rest)
unfolding expr
value_read d f rest w h e =
    let r = reads_some f d 1 rest (reads f d 1 rest w h (pos_level f) (subst (StopsAt (level f + 1)) (sym e.no_operator) tt) e.no_index) (subst (StopsAt 1) (sym e.no_operator) tt) in
    ap (λ o. o >>= (λ x. Some (got x.value x.rest))) r

-- the same of less than the depth, for an index and for a prefix
pub below_read : (d least : ℕ) (f : Form) (rest : List Token) → IsWell f → depth f + 1 ≤ d → least ≤ level f → StopsAt least (operator rest) → StopsAt (level f + 1) (operator rest) → NoIndex rest → below d least (tokens f rest) ≡ Some (deep (tree f) (depth f) rest)
unfolding below
below_read zero least f rest w h l s t ni = absurd (omega arith)
below_read (suc d) least f rest w h l s t ni = reads_some f d least rest (reads f d least rest w (omega arith) l t ni) s

pub index_read : (d : ℕ) (f : Form) (s : Spot) (w : Word) (rest : List Token) → IsWell f → depth f + 1 ≤ d → operator (the s w ∷ rest) ≡ None → NoIndex (the s w ∷ rest) → below d 1 (tokens f (the s w ∷ rest)) ≡ Some (deep (tree f) (depth f) (the s w ∷ rest))
index_read d f s w rest wf h o ni = below_read d 1 f (the s w ∷ rest) wf h (pos_level f) (subst (StopsAt 1) (sym o) tt) (subst (StopsAt (level f + 1)) (sym o) tt) ni

pub prefix_read : (d : ℕ) (f : Form) (rest : List Token) → IsWell f → depth f + 1 ≤ d → 11 ≤ level f → NoIndex rest → below d 11 (tokens f rest) ≡ Some (deep (tree f) (depth f) rest)
prefix_read d f rest w h l ni = below_read d 11 f rest w h l (stops_at 11 (operator rest) (omega arith)) (stops_at (level f + 1) (operator rest) (omega (arith, l))) ni
