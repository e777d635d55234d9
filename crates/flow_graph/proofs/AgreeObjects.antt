-- Objects, the cells in them, and the words that name them.
use Rattle.std.proofs.Common.{◌≡◌, ℕ, ℤ, pos, negsuc, zero, suc, ◌+◌, ◌-◌, ◌*◌, ◌/◌, ◌%◌, ◌^◌, ◌<◌, ◌≤◌, Bool, true, false, cond, eqb, ltb, List, [], ◌∷◌, length, Option, Some, None, Result, Ok, Err, inl, inr, refl, sym, ap, ◌∙◌, subst, arith}
use Rattle.std.specs.Prelude.{slice_get, ◌+ℤ◌, nat_le}
use Rattle.std.specs.Option.{option_and_then}
use Rattle.std.specs.List.{list_all}
use Rattle.std.proofs.lemmas.Bool.{cases_Bool, cases_lt, and_parts, false≢true, lt-ltb, le-ltb, ltb-true, leb-true, eqb-true, eqb-false}
use Rattle.std.proofs.lemmas.Option.{none-some, same_Some, slice_get_within}
use Rattle.std.proofs.lemmas.Nat.{shr_high, mod_low}
use Rattle.std.proofs.Math.Nat.{mod-eq_of_lt}
use Rattle.ckpt_base.specs.declared.trap.Trap.{Trap}
use Rattle.ckpt_base.specs.declared.trap.Trap.TheVariants.{OutsideObject, NullPointer}
use Rattle.ckpt_base.specs.Pointer.{Object, object_of, at_place, moved_in, moved, cell_in, cell_of}
use Rattle.c_tree.specs.declared.resolved.ObjectKind.{ObjectKind}
use Rattle.c_tree.specs.declared.resolved.ObjectKind.TheVariants.{Number, Array, Pointer}
use Rattle.c_tree.specs.declared.resolved.RObject.{RObject}
use Rattle.c_tree.specs.declared.resolved.Resolved.{Resolved}
use Rattle.c_tree.specs.Layout.{objects_from, objects, object_cells}
use Rattle.c_tree.specs.Checked.{variable_kind, element, file_variable, local_kind, main_variable, has_address, is_addressable, has_cells, IsChecked}
use Rattle.c_tree.specs.State.{object_word}

-- ---- where an object stands

pub record IsObject (os : List RObject) (c o : ℕ) (b : Object) : Type 0 where
  pub object : RObject
  pub is : slice_get os o ≡ Some object
  pub long : b.1 ≡ object.length
  pub from : c ≤ b.0
  pub to : b.0 + b.1 ≤ c + object_cells os
  pub at : (k i : ℕ) → k < b.1 → b.0 + k ≡ c + i → element os i ≡ Some (object, k)

pub element_first : (o : RObject) (os : List RObject) (i k : ℕ) → k < o.length → i ≡ k → element (o ∷ os) i ≡ Some (o, k)
element_first o os i k lt e = ap (λ (b : Bool). cond b (Some (o, i)) (element os (i - o.length))) (lt-ltb i o.length (omega arith)) ∙ ap (λ j. Some (o, j)) e

pub element_later : (o : RObject) (os : List RObject) (i : ℕ) → o.length ≤ i → element (o ∷ os) i ≡ element os (i - o.length)
element_later o os i le = ap (λ (b : Bool). cond b (Some (o, i)) (element os (i - o.length))) (le-ltb i o.length le)

first_object : (x : RObject) (os : List RObject) (c : ℕ) → IsObject (x ∷ os) c 0 (c, x.length)
first_object x os c = record {
  object = x;
  is = refl;
  long = refl;
  from = omega arith;
  to = omega arith;
  at = λ k i lt e. element_first x os i k lt (omega arith);
}

later_object : (x : RObject) (os : List RObject) (c o : ℕ) (b : Object) → IsObject os (c + x.length) o b → IsObject (x ∷ os) c (suc o) b
later_object x os c o b h = record {
  object = h.object;
  is = h.is;
  long = h.long;
  from = omega (arith, h.from);
  to = omega (arith, h.to);
  at = λ k i lt e. element_later x os i (omega (arith, h.from)) ∙ h.at k (i - x.length) lt (omega (arith, h.from));
}

pub object_at : (os : List RObject) (c o : ℕ) (b : Object) → slice_get (objects_from c os) o ≡ Some b → IsObject os c o b
object_at [] c o b e = absurd (none-some b e)
object_at (x ∷ os) c zero b e = subst (λ (z : Object). IsObject (x ∷ os) c 0 z) (same_Some (c, x.length) b e) (first_object x os c)
object_at (x ∷ os) c (suc o) b e = later_object x os c o b (object_at os (c + x.length) o b e)

pub element_within : (os : List RObject) (i : ℕ) (e : RObject × ℕ) → element os i ≡ Some e → i < object_cells os
element_within [] i e h = absurd (none-some e h)
element_within (o ∷ os) i e h = elim (cases_lt i o.length) [
  | inl lt ↦ omega arith
  | inr le ↦ (let k = element_within os (i - o.length) e (sym (element_later o os i le) ∙ h) in omega (arith, k))
]

-- a variable of the file has a cell of the file
pub file_within : (os : List RObject) (i : ℕ) (b : Bool) → file_variable os i ≡ Some b → i < object_cells os
file_within os i b h = elim (element os i) as (λ (o : Option (RObject × ℕ)). element os i ≡ o → option_and_then (λ e. variable_kind (e.0).kind) o ≡ Some b → i < object_cells os) [
  | None ↦ (λ e k. absurd (none-some b k))
  | Some x ↦ (λ e k. element_within os i x e)
] refl h

pub main_of_file : (p : Resolved) (c : ℕ) → c < object_cells p.objects → main_variable p c ≡ file_variable p.objects c
main_of_file p c lt = ap (λ (b : Bool). cond b (file_variable p.objects c) (local_kind p.main.locals (c - object_cells p.objects))) (lt-ltb c (object_cells p.objects) lt)

pub file_is_main : (p : Resolved) (c : ℕ) (b : Bool) → file_variable p.objects c ≡ Some b → main_variable p c ≡ Some b
file_is_main p c b h = main_of_file p c (file_within p.objects c b h) ∙ h

-- ---- what has an address is no pointer

no_address : (k : ObjectKind) → has_address k ≡ true → variable_kind k ≡ Some true → ⊥
no_address Number h e = false≢true (same_Some false true e)
no_address Array h e = none-some true e
no_address Pointer h e = false≢true h

-- the cell at a place of an object is of the object's kind
pub kind_at : (p : Resolved) (o k c : ℕ) (b : Object) (h : IsObject p.objects 0 o b) → k < b.1 → c ≡ b.0 + k → main_variable p c ≡ variable_kind h.object.kind
kind_at p o k c b h lt e =
    main_of_file p c (omega (arith, h.to)) ∙ ap (λ (x : Option (RObject × ℕ)). option_and_then (λ y. variable_kind (y.0).kind) x) (h.at k c lt (omega arith))

pub no_pointer_there : (p : Resolved) (o k c : ℕ) (b : Object) → slice_get (objects p) o ≡ Some b → k < b.1 → c ≡ b.0 + k → is_addressable (slice_get p.objects o) ≡ true → main_variable p c ≡ Some true → ⊥
no_pointer_there p o k c b is lt e a t =
    let h = object_at p.objects 0 o b is in
    no_address h.object.kind (ap is_addressable (sym h.is) ∙ a) (sym (kind_at p o k c b h lt e) ∙ t)

-- ---- sizes

cell_each : (k : ObjectKind) (n : ℕ) → has_cells k n ≡ true → 1 ≤ n
cell_each Number n h = let e = eqb-true n 1 h in omega (arith, e)
cell_each Array n h = leb-true 1 n h
cell_each Pointer n h = let e = eqb-true n 1 h in omega (arith, e)

few_objects : (os : List RObject) → list_all (λ o. has_cells o.kind o.length) os ≡ true → length os ≤ object_cells os
few_objects [] h = omega arith
few_objects (o ∷ os) h =
    let q = and_parts (has_cells o.kind o.length) (list_all (λ o. has_cells o.kind o.length) os) h in
    let a = cell_each o.kind o.length q.0 in
    let b = few_objects os q.1 in
    omega (arith, a, b)

pub objects_few : (p : Resolved) → IsChecked p → length p.objects ≤ 262144
objects_few p h = let a = few_objects p.objects h.lengths in omega (arith, a, h.cells)

pub object_short : (p : Resolved) → IsChecked p → (o : ℕ) (b : Object) → slice_get (objects p) o ≡ Some b → b.1 ≤ 262144
object_short p h o b is = let q = object_at p.objects 0 o b is in omega (arith, q.to, h.cells)

pub object_there : (p : Resolved) (o : ℕ) (b : Object) → slice_get (objects p) o ≡ Some b → o < length p.objects
object_there p o b is = let q = object_at p.objects 0 o b is in slice_get_within p.objects o q.object q.is

-- ---- words that name objects

pub record CellFound (os : List Object) (a c : ℕ) : Type 0 where
  pub object : ℕ
  pub block : Object
  pub names : a / 2 ^ 32 ≡ object + 1
  pub is : slice_get os object ≡ Some block
  pub within : a % 2 ^ 32 < block.1
  pub cell : c ≡ block.0 + a % 2 ^ 32

-- the object that a word names
pub record Found (os : List Object) (a : ℕ) (b : Object) : Type 0 where
  pub object : ℕ
  pub names : a / 2 ^ 32 ≡ object + 1
  pub is : slice_get os object ≡ Some b

pub object_found : (os : List Object) (a : ℕ) (b : Object) → object_of os a ≡ Some b → Found os a b
object_found os a b e = elim (cases_Bool (eqb (a / 2 ^ 32) 0)) [
  | inl t ↦ absurd (none-some b (sym (ap (λ (x : Bool). cond x None (slice_get os (a / 2 ^ 32 - 1))) t) ∙ e))
  | inr f ↦ (let ne = eqb-false (a / 2 ^ 32) 0 f in record {
    object = a / 2 ^ 32 - 1;
    names = one_less (a / 2 ^ 32) ne;
    is = sym (ap (λ (x : Bool). cond x None (slice_get os (a / 2 ^ 32 - 1))) f) ∙ e;
  })
]
  where
    one_less : (q : ℕ) → (q ≡ 0 → ⊥) → q ≡ q - 1 + 1
    one_less zero ne = absurd (ne refl)
    one_less (suc q) ne = omega arith

err_ok : {A B : Type 0} (t : Trap) (x : A) → ◌≡◌ {A = Result A Trap} (Err t) (Ok x) → B
err_ok t x e = absurd cc

same_Ok : (x y : ℕ) → ◌≡◌ {A = Result ℕ Trap} (Ok x) (Ok y) → x ≡ y
same_Ok x y e = cc

cell_in_found : (os : List Object) (a c : ℕ) (o : Option Object) → object_of os a ≡ o → cell_in o a ≡ Ok c → CellFound os a c
cell_in_found os a c None is e = err_ok OutsideObject c e
cell_in_found os a c (Some b) is e =
    let f = object_found os a b is in
    elim (cases_Bool (ltb (a % 2 ^ 32) b.1)) [
      | inl t ↦ record {
        object = f.object;
        block = b;
        names = f.names;
        is = f.is;
        within = ltb-true (a % 2 ^ 32) b.1 t;
        cell = same_Ok c (b.0 + a % 2 ^ 32) (sym e ∙ ap (λ (x : Bool). cond x (Ok (b.0 + a % 2 ^ 32)) (Err OutsideObject)) t);
      }
      | inr u ↦ err_ok OutsideObject c (sym (ap (λ (x : Bool). cond x (Ok (b.0 + a % 2 ^ 32)) (Err OutsideObject)) u) ∙ e)
    ]

pub cell_found : (os : List Object) (a c : ℕ) → cell_of os a ≡ Ok c → CellFound os a c
cell_found os a c e = elim (cases_Bool (eqb a 0)) [
  | inl t ↦ err_ok NullPointer c (sym (ap (λ (x : Bool). cond x (Err NullPointer) (cell_in (object_of os a) a)) t) ∙ e)
  | inr f ↦ cell_in_found os a c (object_of os a) refl (sym (ap (λ (x : Bool). cond x (Err NullPointer) (cell_in (object_of os a) a)) f) ∙ e)
]

-- a pointer that is moved names its object still
pub record MovedTo (a : ℕ) (z : ℤ) (b : ℕ) : Type 0 where
  pub object : b / 2 ^ 32 ≡ a / 2 ^ 32
  pub place : pos (a % 2 ^ 32) +ℤ z ≡ pos (b % 2 ^ 32)

at_place_found : (a len : ℕ) (k : ℤ) (b : ℕ) → len < 2 ^ 32 → at_place a len k ≡ Ok b → (b / 2 ^ 32 ≡ a / 2 ^ 32) × (k ≡ pos (b % 2 ^ 32))
at_place_found a len (negsuc k) b lt e = err_ok OutsideObject b e
at_place_found a len (pos k) b lt e = elim (cases_Bool (nat_le k len)) [
  | inl t ↦ (
      let le = leb-true k len t in
      let is = same_Ok b (a / 2 ^ 32 * 2 ^ 32 + k) (sym e ∙ ap (λ (x : Bool). cond x (Ok (a / 2 ^ 32 * 2 ^ 32 + k)) (Err OutsideObject)) t) in
      let small : k < 2 ^ 32 = omega arith in (
        ap (λ x. x / 2 ^ 32) is ∙ shr_high (a / 2 ^ 32) 32 k small,
        ap pos (sym (ap (λ x. x % 2 ^ 32) is ∙ mod_low (a / 2 ^ 32) 32 k small)),
      ))
  | inr u ↦ err_ok OutsideObject b (sym (ap (λ (x : Bool). cond x (Ok (a / 2 ^ 32 * 2 ^ 32 + k)) (Err OutsideObject)) u) ∙ e)
]

moved_in_found : (o : Option Object) (a : ℕ) (z : ℤ) (b : ℕ) → ((x : Object) → o ≡ Some x → x.1 < 2 ^ 32) → moved_in o a z ≡ Ok b → MovedTo a z b
moved_in_found None a z b h e = err_ok OutsideObject b e
moved_in_found (Some o) a z b h e = elim (cases_Bool (nat_le (a % 2 ^ 32) o.1)) [
  | inl t ↦ (let q = at_place_found a o.1 (pos (a % 2 ^ 32) +ℤ z) b (h o refl) (sym (ap (λ (x : Bool). cond x (at_place a o.1 (pos (a % 2 ^ 32) +ℤ z)) (Err OutsideObject)) t) ∙ e) in record { object = q.0; place = q.1 })
  | inr u ↦ err_ok OutsideObject b (sym (ap (λ (x : Bool). cond x (at_place a o.1 (pos (a % 2 ^ 32) +ℤ z)) (Err OutsideObject)) u) ∙ e)
]

pub moved_found : (os : List Object) (a : ℕ) (z : ℤ) (b : ℕ) → ((o : ℕ) (x : Object) → slice_get os o ≡ Some x → x.1 < 2 ^ 32) → moved os a z ≡ Ok b → MovedTo a z b
moved_found os a z b h e = elim (cases_Bool (eqb a 0)) [
  | inl t ↦ err_ok NullPointer b (sym (ap (λ (x : Bool). cond x (Err NullPointer) (moved_in (object_of os a) a z)) t) ∙ e)
  | inr f ↦ moved_in_found (object_of os a) a z b (λ x is. let q = object_found os a x is in h q.object x q.is)
      (sym (ap (λ (x : Bool). cond x (Err NullPointer) (moved_in (object_of os a) a z)) f) ∙ e)
]

-- the word of an object's address
pub object_word_is : (o : ℕ) → o < 262144 → object_word o ≡ (o + 1) * 2 ^ 32 + 0
object_word_is o lt = mod-eq_of_lt (omega arith)

pub object_word_names : (o : ℕ) → o < 262144 → object_word o / 2 ^ 32 ≡ o + 1
object_word_names o lt = ap (λ a. a / 2 ^ 32) (object_word_is o lt) ∙ shr_high (o + 1) 32 0 (omega arith)

pub object_word_place : (o : ℕ) → o < 262144 → object_word o % 2 ^ 32 ≡ 0
object_word_place o lt = ap (λ a. a % 2 ^ 32) (object_word_is o lt) ∙ mod_low (o + 1) 32 0 (omega arith)
