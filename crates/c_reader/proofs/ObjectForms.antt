-- What is read is spelled, and what is spelled is read: the objects of a file.
use Rattle.std.proofs.Common.{◌≡◌, ℕ, ◌<◌, ◌≤◌, List, [], ◌∷◌, length, Option, Some, None, refl, sym, ap, ◌∙◌, subst, arith, true}
use Rattle.c_tree.specs.declared.token.Token.{Token}
use Rattle.c_tree.specs.declared.token.Kind.{Kind}
use Rattle.c_tree.specs.declared.token.Kind.TheVariants as kind
use Rattle.c_tree.specs.declared.token.Word.TheVariants as word
use Rattle.c_tree.specs.declared.tree.Length.{Length}
use Rattle.c_tree.specs.declared.tree.Length.TheVariants as length'
use Rattle.c_tree.specs.declared.tree.ObjectForm.{ObjectForm}
use Rattle.c_tree.specs.declared.tree.ObjectForm.TheVariants as object'
use Rattle.c_tree.specs.declared.tree.ObjectDecl.{ObjectDecl}
use Rattle.c_tree.specs.declared.tree.Item.{Item as TreeItem}
use Rattle.c_tree.specs.declared.tree.Item.TheVariants as item'
use Rattle.c_tree.specs.Scan.{Spot, at}
use Rattle.c_tree.specs.Expressions.{the, a_name, name_at}
use Rattle.c_tree.specs.Listed.{Listed}
use Rattle.c_tree.specs.Listed as list
use Rattle.c_tree.specs.Statements.{is_pointer}
use Rattle.c_tree.specs.Declarations.{LengthForm, Num, Named, length_token, length_tree, BehindForm, Nothing, Starts, Array, minus_tokens, behind_tokens, behind_tree, DeclForm, Plain, Pointer, decl_tokens, decl_tree}
use Rattle.c_reader.specs.Reading.{Got, got, ◌>>=◌, after, name}
use Rattle.c_reader.specs.Listing.{listing, push}
use Rattle.c_reader.specs.ReadingItems.{extent_of, extent, started, started_of, array_of, behind_of, behind, object_decl, decl_of, decl, objects}
use Rattle.c_reader.proofs.TokenKinds.{after_is, spot_of}
use Rattle.c_reader.proofs.Complete.{Ends}
use Rattle.c_reader.proofs.Sound.{bind_some, name_is}
use Rattle.c_reader.proofs.Listings.{Takes, Item, Reads, listed_read, listed_sound, pushed}
use Rattle.c_reader.proofs.CallForms.{ends_semi}

-- ---- what is spelled is read

extent_read : (f : LengthForm) (ts : List Token) → extent (length_token f ∷ ts) ≡ Some (got (length_tree f) ts)
extent_read (Num s n) ts = refl
extent_read (Named s x) ts = refl

started_read : (m : Option Spot) (f : LengthForm) (ts : List Token) → started_of (minus_tokens m (length_token f ∷ ts)) (after word.Minus (minus_tokens m (length_token f ∷ ts))) ≡ Some (got (object'.Started (is_pointer m) (length_tree f)) ts)
started_read None (Num s n) ts = refl
started_read None (Named s x) ts = refl
started_read (Some m) f ts = ap (λ r. r >>= (λ n. Some (got (object'.Started true n.value) n.rest))) (extent_read f ts)

behind_read : (f : BehindForm) (ts : List Token) → Ends ts → behind (behind_tokens f ts) ≡ Some (got (behind_tree f) ts)
behind_read Nothing ts e = ap (behind_of ts) e.no_equals ∙ ap (array_of ts) e.no_index
behind_read (Starts q m f) ts e = started_read m f ts
behind_read (Array o f c) ts e = ap (λ r. r >>= (λ n. after word.RBracket n.rest >>= (λ vs. Some (got (object'.Array n.value) vs)))) (extent_read f (the c word.RBracket ∷ ts))

decl_read : (f : DeclForm) (ts : List Token) → Ends ts → decl (decl_tokens f ts) ≡ Some (got (decl_tree f) ts)
decl_read (Plain s x f) ts e = ap (λ r. r >>= (λ f. Some (got (object_decl (name_at s x) f.value) f.rest))) (behind_read f ts e)
decl_read (Pointer p s x) ts e = refl

behind_grows : (f : BehindForm) (ts : List Token) → length ts ≤ length (behind_tokens f ts)
behind_grows Nothing ts = omega arith
behind_grows (Starts q None f) ts = omega arith
behind_grows (Starts q (Some m) f) ts = omega arith
behind_grows (Array o f c) ts = omega arith

pub decl_grows : (f : DeclForm) (ts : List Token) → length ts < length (decl_tokens f ts)
decl_grows (Plain s x f) ts = omega (arith, behind_grows f ts)
decl_grows (Pointer p s x) ts = omega arith

abbrev pub Any : DeclForm → Type 0
Any f = Unit {0}

all_any : (fs : Listed DeclForm) → list.AreWell Any fs
all_any (list.Last f) = tt
all_any (list.Then f c fs) = (tt, all_any fs)

decl_reads : Reads decl_tokens decl_tree Any decl push
decl_reads = record { grows = decl_grows; read = λ f ts w e. decl_read f ts e }

pub objects_read : (l : ℕ) (fs : Listed DeclForm) (e : Spot) (ts : List Token) → objects l (list.tokens decl_tokens fs (the e word.Semi ∷ ts)) ≡ Some (got (item'.Objects l (list.trees decl_tree fs)) ts)
objects_read l fs e ts =
    let us = list.tokens decl_tokens fs (the e word.Semi ∷ ts) in
    ap (λ r. r >>= (λ ds. after word.Semi ds.rest >>= (λ us. Some (got (item'.Objects l ds.value) us))))
    (listed_read decl_tokens decl_tree Any decl push decl_reads fs (length us) [] (the e word.Semi ∷ ts) (all_any fs) (omega arith) (ends_semi e ts) refl)
    ∙ ap (λ xs. Some (got (item'.Objects l xs) ts)) (pushed [] (list.trees decl_tree fs))

-- ---- what is read is spelled

record SpeltLength (ts : List Token) (x : Got Length) : Type 0 where
  form : LengthForm
  tree_is : length_tree form ≡ x.value
  tokens_are : ts ≡ length_token form ∷ x.rest

extent_kind : (s : Spot) (k : Kind) (ts : List Token) (x : Got Length) → extent_of k s.constants ts ≡ Some x → SpeltLength (at s k ∷ ts) x
extent_kind s (kind.Num n) ts x h =
    let e : got (length'.Num n) ts ≡ x = cc (h) in
    subst (SpeltLength (at s (kind.Num n) ∷ ts)) e (record { form = Num s n; tree_is = refl; tokens_are = refl })
extent_kind s (kind.Name t) ts x h =
    let e : got (length'.Name (name_at s t)) ts ≡ x = cc (h) in
    subst (SpeltLength (a_name s t ∷ ts)) e (record { form = Named s t; tree_is = refl; tokens_are = refl })
extent_kind s (kind.Format ps) ts x h = absurd cc
extent_kind s (kind.Word w) ts x h = absurd cc

extent_sound : (ts : List Token) (x : Got Length) → extent ts ≡ Some x → SpeltLength ts x
extent_sound [] x h = absurd cc
extent_sound (t ∷ ts) x h = extent_kind (spot_of t) t.kind ts x h

record SpeltBehind (ts : List Token) (x : Got ObjectForm) : Type 0 where
  form : BehindForm
  tree_is : behind_tree form ≡ x.value
  tokens_are : ts ≡ behind_tokens form x.rest

started_is : (m : Option Spot) (e : Spot) (ts us vs : List Token) (x : Got ObjectForm) → ts ≡ the e word.Assign ∷ us → us ≡ minus_tokens m vs → started (is_pointer m) vs ≡ Some x → SpeltBehind ts x
started_is m e ts us vs x p q h =
    let a = bind_some (extent vs) (λ n. Some (got (object'.Started (is_pointer m) n.value) n.rest)) x h in
    let s = extent_sound vs a.0 a.1 in
    let y : got (object'.Started (is_pointer m) a.0.value) a.0.rest ≡ x = cc (a.2) in
    subst (SpeltBehind ts) y (record { form = Starts e m s.form; tree_is = ap (object'.Started (is_pointer m)) s.tree_is; tokens_are = p ∙ ap (λ v. the e word.Assign ∷ v) (q ∙ ap (minus_tokens m) s.tokens_are) })

started_sound : (e : Spot) (ts us : List Token) (o : Option (List Token)) (x : Got ObjectForm) → ts ≡ the e word.Assign ∷ us → after word.Minus us ≡ o → started_of us o ≡ Some x → SpeltBehind ts x
started_sound e ts us None x p a h = started_is None e ts us us x p refl h
started_sound e ts us (Some vs) x p a h = let m = after_is word.Minus us vs a in started_is (Some m.0) e ts us vs x p m.1 h

array_sound : (ts : List Token) (o : Option (List Token)) (x : Got ObjectForm) → after word.LBracket ts ≡ o → array_of ts o ≡ Some x → SpeltBehind ts x
array_sound ts None x a h =
    let e : got object'.Number ts ≡ x = cc (h) in
    subst (SpeltBehind ts) e (record { form = Nothing; tree_is = refl; tokens_are = refl })
array_sound ts (Some us) x a h =
    let o = after_is word.LBracket ts us a in
    let b = bind_some (extent us) (λ n. after word.RBracket n.rest >>= (λ vs. Some (got (object'.Array n.value) vs))) x h in
    let s = extent_sound us b.0 b.1 in
    let c = bind_some (after word.RBracket b.0.rest) (λ vs. Some (got (object'.Array b.0.value) vs)) x b.2 in
    let r = after_is word.RBracket b.0.rest c.0 c.1 in
    let e : got (object'.Array b.0.value) c.0 ≡ x = cc (c.2) in
    subst (SpeltBehind ts) e (record { form = Array o.0 s.form r.0; tree_is = ap object'.Array s.tree_is; tokens_are = o.1 ∙ ap (λ v. the o.0 word.LBracket ∷ v) (s.tokens_are ∙ ap (λ v. length_token s.form ∷ v) r.1) })

behind_at : (ts : List Token) (o : Option (List Token)) (x : Got ObjectForm) → after word.Assign ts ≡ o → behind_of ts o ≡ Some x → SpeltBehind ts x
behind_at ts None x a h = array_sound ts (after word.LBracket ts) x refl h
behind_at ts (Some us) x a h = let e = after_is word.Assign ts us a in started_sound e.0 ts us (after word.Minus us) x e.1 refl h

decl_at : (ts : List Token) (o : Option (List Token)) (x : Got ObjectDecl) → after word.Star ts ≡ o → decl_of ts o ≡ Some x → Item decl_tokens decl_tree Any ts x
decl_at ts None x a h =
    let b = bind_some (name ts) (λ n. behind n.rest >>= (λ f. Some (got (object_decl n.value f.value) f.rest))) x h in
    let n = name_is ts b.0 b.1 in
    let c = bind_some (behind b.0.rest) (λ f. Some (got (object_decl b.0.value f.value) f.rest)) x b.2 in
    let s = behind_at b.0.rest (after word.Assign b.0.rest) c.0 refl c.1 in
    let e : got (object_decl b.0.value c.0.value) c.0.rest ≡ x = cc (c.2) in
    subst (Item decl_tokens decl_tree Any ts) e (record { form = Plain n.spot n.text s.form; well = tt; tree_is = ap (λ m. object_decl m (behind_tree s.form)) n.is ∙ ap (object_decl b.0.value) s.tree_is; tokens_are = n.tokens_are ∙ ap (λ v. a_name n.spot n.text ∷ v) s.tokens_are })
decl_at ts (Some us) x a h =
    let p = after_is word.Star ts us a in
    let b = bind_some (name us) (λ n. Some (got (object_decl n.value object'.Pointer) n.rest)) x h in
    let n = name_is us b.0 b.1 in
    let e : got (object_decl b.0.value object'.Pointer) b.0.rest ≡ x = cc (b.2) in
    subst (Item decl_tokens decl_tree Any ts) e (record { form = Pointer p.0 n.spot n.text; well = tt; tree_is = ap (λ m. object_decl m object'.Pointer) n.is; tokens_are = p.1 ∙ ap (λ v. the p.0 word.Star ∷ v) n.tokens_are })

decl_item : (ts : List Token) (x : Got ObjectDecl) → decl ts ≡ Some x → Item decl_tokens decl_tree Any ts x
decl_item ts x h = decl_at ts (after word.Star ts) x refl h

pub decl_takes : Takes decl
decl_takes ts x h = let s = decl_item ts x h in omega (arith, ap length s.tokens_are, decl_grows s.form x.rest)

pub record SpeltObjects (l : ℕ) (ts : List Token) (x : Got TreeItem) : Type 0 where
  pub forms : Listed DeclForm
  pub ends : Spot
  pub tree_is : item'.Objects l (list.trees decl_tree forms) ≡ x.value
  pub tokens_are : ts ≡ list.tokens decl_tokens forms (the ends word.Semi ∷ x.rest)

pub objects_sound : (l : ℕ) (ts : List Token) (x : Got TreeItem) → objects l ts ≡ Some x → SpeltObjects l ts x
objects_sound l ts x h =
    let a = bind_some (listing decl ts) (λ ds. after word.Semi ds.rest >>= (λ us. Some (got (item'.Objects l ds.value) us))) x h in
    let s = listed_sound decl_tokens decl_tree Any decl push decl_item (length ts) [] ts a.0 a.1 in
    let b = bind_some (after word.Semi a.0.rest) (λ us. Some (got (item'.Objects l a.0.value) us)) x a.2 in
    let r = after_is word.Semi a.0.rest b.0 b.1 in
    let e : got (item'.Objects l a.0.value) b.0 ≡ x = cc (b.2) in
    subst (SpeltObjects l ts) e (record { forms = s.forms; ends = r.0; tree_is = ap (item'.Objects l) (sym (pushed [] (list.trees decl_tree s.forms)) ∙ s.trees_are); tokens_are = s.tokens_are ∙ ap (list.tokens decl_tokens s.forms) r.1 })
