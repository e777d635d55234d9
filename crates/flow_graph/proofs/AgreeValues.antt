-- Expressions have one value in two states that agree on what they read, and pointers come from where the text says.
use Rattle.std.proofs.Common.{◌≡◌, ℕ, ℤ, pos, zero, suc, ◌+◌, ◌/◌, ◌%◌, ◌^◌, ◌<◌, Bool, true, false, cond, List, [], ◌∷◌, ◌++◌, length, get_or, Option, Some, None, Result, Ok, Err, inl, inr, refl, sym, ap, ◌∙◌, subst, arith}
use Rattle.std.specs.Prelude.{slice_get, slice_index_or, ◌+ℤ◌, if◌then◌else◌}
use Rattle.std.specs.Option.{option_and_then}
use Rattle.std.proofs.lemmas.Bool.{cases_Bool, cases_lt, false≢true}
use Rattle.std.proofs.lemmas.Option.{none-some, same_Some, slice_get_within}
use Rattle.std.proofs.lemmas.List.{get_or_past}
use Rattle.std.proofs.Math.IntN.{+ℤ_idl}
use Rattle.ckpt_base.specs.declared.trap.Trap.{Trap}
use Rattle.ckpt_base.specs.Word.{signed, word_of, word_holds, truth_word}
use Rattle.ckpt_base.specs.Pointer.{Object, moved, cell_of}
use Rattle.c_tree.specs.declared.resolved.Direction.{Direction}
use Rattle.c_tree.specs.declared.resolved.Direction.TheVariants.{Forward, Back}
use Rattle.c_tree.specs.declared.resolved.RBinary.{RBinary}
use Rattle.c_tree.specs.declared.resolved.RBinary.TheVariants as binary'
use Rattle.c_tree.specs.declared.resolved.RExpr.{RExpr}
use Rattle.c_tree.specs.declared.resolved.RExpr.TheOpen.{RExpr-F}
use Rattle.c_tree.specs.declared.resolved.RExpr.TheViews.{roll-RExpr}
use Rattle.c_tree.specs.declared.resolved.RExpr.TheFolds.{map-RExpr, fold-roll-RExpr, ind-RExpr}
use Rattle.c_tree.specs.declared.resolved.RFunction.{RFunction}
use Rattle.c_tree.specs.declared.resolved.RObject.{RObject}
use Rattle.c_tree.specs.declared.resolved.Resolved.{Resolved}
use Rattle.c_tree.specs.Layout.{objects, cell_count}
use Rattle.c_tree.specs.Kinds.{World, of_numbers, of_alike, of_binary, of_move, of_pointed, kind_at, kind}
use Rattle.c_tree.specs.Checked.{IsChecked, is_addressable, local_kind, main_variable, in_main, in_function}
use Rattle.c_tree.specs.State.{State, Variables, Value, ◌>>=◌, unary, binary, places, fetched, object_word, value_at, value}
use Rattle.alias_sets.specs.declared.flows.PointerVar.TheVariants as var
use Rattle.alias_sets.specs.Flows.{local_of, variable_source}
use Rattle.alias_sets.specs.Points.{MayCome}
use Rattle.access_summary.specs.declared.effects.Named.{Named}
use Rattle.access_summary.specs.declared.effects.Named.TheVariants as named'
use Rattle.access_summary.specs.declared.effects.Target.{Target}
use Rattle.access_summary.specs.declared.effects.Target.TheVariants as target'
use Rattle.access_summary.specs.declared.effects.Effect.{Effect}
use Rattle.access_summary.specs.declared.effects.Effect.TheVariants as effect
use Rattle.access_summary.specs.declared.touch.Access.{Access}
use Rattle.access_summary.specs.declared.touch.Access.TheVariants as access'
use Rattle.access_summary.specs.Effects as text
use Rattle.access_summary.specs.Effects.{Seen, seen, seen_at, source_in, target}
use Rattle.access_summary.specs.Touch.{place_of, LiesIn, IsAtPlace, MayTouch, Touches}
use Rattle.flow_graph.specs.Agreement.{word, AreAlike, NamesObject, IsKept, pointer_local, KeepsLocals, KeepsPointers}
use Rattle.flow_graph.proofs.AgreeObjects.{CellFound, cell_found, MovedTo, moved_found, object_word_names, object_word_place, objects_few, object_short, object_there, file_is_main}

-- ---- worlds

abbrev pub IsLocal : Resolved → Option ℕ → ℕ → Bool → Type 0
IsLocal p None i b = ⊥
IsLocal p (Some k) i b = pointer_local p k i ≡ Some b

-- what a world says of its function is so
pub record IsWorldOf (p : Resolved) (f : Option ℕ) (w : World) : Type 0 where
  pub cell : (c : ℕ) (b : Bool) → w.cell c ≡ Some b → main_variable p c ≡ Some b
  pub local : (i : ℕ) (b : Bool) → w.local i ≡ Some b → IsLocal p f i b
  pub has_address : (o : ℕ) → w.has_address o ≡ true → is_addressable (slice_get p.objects o) ≡ true

pub world_of_main : (p : Resolved) → IsWorldOf p None (in_main p)
world_of_main p = record { cell = λ c b h. h; local = λ i b h. absurd (none-some b h); has_address = λ o h. h }

pub world_of_function : (p : Resolved) (k : ℕ) (g : RFunction) → slice_get p.functions k ≡ Some g → IsWorldOf p (Some k) (in_function p g)
world_of_function p k g is = record {
  cell = file_is_main p;
  local = λ i b h. ap (λ (o : Option RFunction). option_and_then (λ x. local_kind x.locals i) o) is ∙ h;
  has_address = λ o h. h;
}

-- ---- effects

pub touches_left : (p : Resolved) (a : Access) (xs ys : List Effect) (c : ℕ) → Touches p a xs c → Touches p a (xs ++ ys) c
touches_left p a xs ys c t = (t.0, t.1, at_left xs ys t.0 t.1 t.2, t.3)
  where
    at_left : (xs ys : List Effect) (k : ℕ) (e : Effect) → slice_get xs k ≡ Some e → slice_get (xs ++ ys) k ≡ Some e
    at_left [] ys k e h = absurd (none-some e h)
    at_left (x ∷ xs) ys zero e h = h
    at_left (x ∷ xs) ys (suc k) e h = at_left xs ys k e h

pub touches_right : (p : Resolved) (a : Access) (xs ys : List Effect) (c : ℕ) → Touches p a ys c → Touches p a (xs ++ ys) c
touches_right p a [] ys c t = t
touches_right p a (x ∷ xs) ys c t = let q = touches_right p a xs ys c t in (suc q.0, q.1, q.2, q.3)

pub zero_names : (p : Resolved) (o : ℕ) → NamesObject p 0 o → ⊥
zero_names p o n = absurd (omega (arith, n.0))

-- ---- kinds

-- two operands are there, and the result is a number
abbrev AreThere : Option Bool → Option Bool → Bool → Type 0
AreThere a b r = (x : Bool) × (y : Bool) × (a ≡ Some x) × (b ≡ Some y) × (r ≡ false)

numbers_there : (a b : Option Bool) (r : Bool) → of_numbers a b ≡ Some r → AreThere a b r
numbers_there (Some false) (Some false) r h = (false, false, refl, refl, sym (same_Some false r h))
numbers_there (Some false) None r h = absurd (none-some r h)
numbers_there (Some false) (Some true) r h = absurd (none-some r h)
numbers_there None b r h = absurd (none-some r h)
numbers_there (Some true) b r h = absurd (none-some r h)

alike_there : (a b : Option Bool) (r : Bool) → of_alike a b ≡ Some r → AreThere a b r
alike_there (Some true) (Some true) r h = (true, true, refl, refl, sym (same_Some false r h))
alike_there (Some true) (Some false) r h = absurd (none-some r h)
alike_there (Some true) None r h = absurd (none-some r h)
alike_there (Some false) b r h = numbers_there (Some false) b r h
alike_there None b r h = numbers_there None b r h

binary_there : (op : RBinary) (a b : Option Bool) (r : Bool) → of_binary op a b ≡ Some r → AreThere a b r
binary_there binary'.Equal a b r h = alike_there a b r h
binary_there binary'.Unequal a b r h = alike_there a b r h
binary_there op a b r h = numbers_there a b r h

move_there : (a b : Option Bool) (r : Bool) → of_move a b ≡ Some r → (a ≡ Some true) × (b ≡ Some false)
move_there (Some true) (Some false) r h = (refl, refl)
move_there (Some true) (Some true) r h = absurd (none-some r h)
move_there (Some true) None r h = absurd (none-some r h)
move_there (Some false) b r h = absurd (none-some r h)
move_there None b r h = absurd (none-some r h)

pub pointed_there : (a : Option Bool) (r : Bool) → of_pointed a ≡ Some r → (a ≡ Some true) × (r ≡ false)
pointed_there (Some true) r h = (refl, sym (same_Some false r h))
pointed_there (Some false) r h = absurd (none-some r h)
pointed_there None r h = absurd (none-some r h)

-- ---- results

abbrev Bound : Result ℕ Trap → (ℕ → Result ℕ Trap) → ℕ → Type 0
Bound r f a = (x : ℕ) × (r ≡ Ok x) × (f x ≡ Ok a)

bound : (r : Result ℕ Trap) (f : ℕ → Result ℕ Trap) (a : ℕ) → (r >>= f) ≡ Ok a → Bound r f a
bound (Ok x) f a h = (x, refl, h)
bound (Err t) f a h = absurd cc

pub same_Ok : (x y : ℕ) → ◌≡◌ {A = Result ℕ Trap} (Ok x) (Ok y) → x ≡ y
same_Ok x y e = cc

-- ---- what a value names

-- what the text says of a value
abbrev pub IsExact : Resolved → Named → ℕ → Type 0
IsExact p (named'.Number k) a = a ≡ word_of k
IsExact p (named'.Object o) a = (a ≡ object_word o) × (o < length p.objects)
IsExact p (named'.Element o k) a = (a / 2 ^ 32 ≡ o + 1) × (signed (word_of k) ≡ pos (a % 2 ^ 32))
IsExact p (named'.From s) a = Unit {0}

moved_source : (d : Direction) (p n : Named) → source_in (text.moved d p n) ≡ source_in p
moved_source Forward (named'.Object o) (named'.Number k) = refl
moved_source d p n = refl

module _ (p : Resolved) (h : IsChecked p) where
  short : (o : ℕ) (b : Object) → slice_get (objects p) o ≡ Some b → b.1 < 2 ^ 32
  short o b is = let q = object_short p h o b is in omega arith

  object_within : (o : ℕ) → o < length p.objects → o < 262144
  object_within o lt = let q = objects_few p h in omega arith

  addressed_within : (o : ℕ) → is_addressable (slice_get p.objects o) ≡ true → o < length p.objects
  addressed_within o a = elim (slice_get p.objects o) as (λ (x : Option RObject). slice_get p.objects o ≡ x → is_addressable x ≡ true → o < length p.objects) [
    | None ↦ (λ e t. absurd (false≢true t))
    | Some x ↦ (λ e t. slice_get_within p.objects o x e)
  ] refl a

  moved_exact : (d : Direction) (x y : Named) (q i a : ℕ) → IsExact p x q → IsExact p y i → MovedTo q (places d i) a → IsExact p (text.moved d x y) a
  moved_exact Forward (named'.Object o) (named'.Number k) q i a ex ey m =
      let lt = object_within o ex.1 in (
        m.object ∙ ap (λ z. z / 2 ^ 32) ex.0 ∙ object_word_names o lt,
        ap signed (sym ey) ∙ sym (+ℤ_idl (signed i)) ∙ ap (λ z. pos z +ℤ signed i) (sym (ap (λ z. z % 2 ^ 32) ex.0 ∙ object_word_place o lt)) ∙ m.place,
      )
  moved_exact Forward (named'.Object o) (named'.Object k) q i a ex ey m = tt
  moved_exact Forward (named'.Object o) (named'.Element k j) q i a ex ey m = tt
  moved_exact Forward (named'.Object o) (named'.From k) q i a ex ey m = tt
  moved_exact Forward (named'.Number k) y q i a ex ey m = tt
  moved_exact Forward (named'.Element k j) y q i a ex ey m = tt
  moved_exact Forward (named'.From k) y q i a ex ey m = tt
  moved_exact Back x y q i a ex ey m = tt

  -- what an access through a pointer touches
  lies_in : (a c : ℕ) → (f : CellFound (objects p) a c) → LiesIn p f.object c
  lies_in a c f = (f.block, f.is, omega (arith, f.cell), omega (arith, f.cell, f.within))

  found_names : (a c : ℕ) (f : CellFound (objects p) a c) → NamesObject p a f.object
  found_names a c f = (f.names, object_there p f.object f.block f.is)

  at_element : (o : ℕ) (k : ℤ) (a c : ℕ) (f : CellFound (objects p) a c) → a / 2 ^ 32 ≡ o + 1 → signed (word_of k) ≡ pos (a % 2 ^ 32) → IsAtPlace p o k c
  at_element o k a c f names place =
      let same : f.object ≡ o = omega (arith, f.names, names) in
      (f.block, a % 2 ^ 32, subst (λ i. slice_get (objects p) i ≡ Some f.block) same f.is, ap place_of place, f.within, f.cell)

  pub touched : (n : Named) (a c : ℕ) → ((o : ℕ) → NamesObject p a o → MayCome p (source_in n) o) → IsExact p n a → cell_of (objects p) a ≡ Ok c → MayTouch p (target n) c
  touched (named'.Number k) a c names exact is = let f = cell_found (objects p) a c is in (f.object, names f.object (found_names a c f), lies_in a c f)
  touched (named'.From s) a c names exact is = let f = cell_found (objects p) a c is in (f.object, names f.object (found_names a c f), lies_in a c f)
  touched (named'.Element o k) a c names exact is = at_element o k a c (cell_found (objects p) a c is) exact.0 exact.1
  touched (named'.Object o) a c names exact is =
      let lt = object_within o exact.1 in
      at_element o (pos 0) a c (cell_found (objects p) a c is) (ap (λ z. z / 2 ^ 32) exact.0 ∙ object_word_names o lt) (ap pos (sym (ap (λ z. z % 2 ^ 32) exact.0 ∙ object_word_place o lt)))

-- ---- one expression in two states

module _ (p : Resolved) (h : IsChecked p) (f : Option ℕ) (w : World) (world : IsWorldOf p f w) (E : ℕ → Type 0) (s t : State) (alike : AreAlike p E s t) (keep : KeepsPointers p E f s) where
  abbrev vs : Variables
  vs = s.variables

  abbrev vt : Variables
  vt = t.variables

  same_objects : vs.objects ≡ vt.objects
  same_objects = sym (ap (λ (u : State). u.variables.objects) alike.rest)

  same_locals : vs.locals ≡ vt.locals
  same_locals = sym (ap (λ (u : State). u.variables.locals) alike.rest)

  pub same_word : (c : ℕ) → (c < cell_count p → E c) → word s c ≡ word t c
  same_word c e = elim (cases_lt c (cell_count p)) [
    | inl lt ↦ alike.words c (e lt)
    | inr le ↦ get_or_past vs.cells c 0 (omega (arith, alike.size)) ∙ sym (get_or_past vt.cells c 0 (omega (arith, alike.same_size)))
  ]

  pub kept_word : (c : ℕ) → (c < cell_count p → E c) → main_variable p c ≡ Some true → IsKept p (var.Cell c) (word s c)
  kept_word c e k = elim (cases_lt c (cell_count p)) [
    | inl lt ↦ keep.cells c (e lt) k
    | inr le ↦ (λ o n. absurd (zero_names p o (subst (λ a. NamesObject p a o) (get_or_past vs.cells c 0 (omega (arith, alike.size))) n)))
  ]

  -- what the effects read counts
  abbrev pub Free : List Effect → Type 0
  Free es = (c : ℕ) → c < cell_count p → Touches p access'.Read es c → E c

  pub free_left : (xs ys : List Effect) → Free (xs ++ ys) → Free xs
  free_left xs ys fr c lt t = fr c lt (touches_left p access'.Read xs ys c t)

  pub free_right : (xs ys : List Effect) → Free (xs ++ ys) → Free ys
  free_right xs ys fr c lt t = fr c lt (touches_right p access'.Read xs ys c t)

  free_one : (t : Target) (c : ℕ) → Free (effect.Read t ∷ []) → MayTouch p t c → c < cell_count p → E c
  free_one t c fr m lt = fr c lt (0, effect.Read t, refl, (t, refl, m))

  -- one value in both states; what it names is what the text says
  pub record Right (v : Value) (k : Option Bool) (n : Seen) : Type 0 where
    pub same : (b : Bool) → k ≡ Some b → Free n.effects → v vs ≡ v vt
    pub names : k ≡ Some true → Free n.effects → (a : ℕ) → v vs ≡ Ok a → (o : ℕ) → NamesObject p a o → MayCome p (source_in n.named) o
    pub exact : (b : Bool) → k ≡ Some b → (a : ℕ) → v vs ≡ Ok a → IsExact p n.named a

  local_names : (g : Option ℕ) (i : ℕ) (ls : List ℕ) → KeepsLocals p g ls → IsLocal p g i true → (o : ℕ) → NamesObject p (get_or ls i 0) o → MayCome p (source_in (named'.From (variable_source (local_of g i)))) o
  local_names None i ls k l o n = absurd l
  local_names (Some j) i ls k l o n = k i l o n

  address_there : (o : ℕ) (b : Bool) → (if w.has_address o then Some true else None) ≡ Some b → w.has_address o ≡ true
  address_there o b e = elim (cases_Bool (w.has_address o)) [
    | inl y ↦ y
    | inr z ↦ absurd (none-some b (sym (ap (λ (x : Bool). cond x (Some true) None) z) ∙ e))
  ]

  number_right : (v : Value) (es : List Effect) (k : Option Bool) → ((b : Bool) → k ≡ Some b → b ≡ false) → ((b : Bool) → k ≡ Some b → Free es → v vs ≡ v vt) → Right v k (text.computed es)
  number_right v es k number same = record {
    same = same;
    names = λ e fr a is o n. absurd (false≢true (sym (number true e)));
    exact = λ b e a is. tt;
  }

  module _ (X : Type 0) (v : X → Value) (k : X → Option Bool) (n : X → Seen) (hx : (x : X) → Right (v x) (k x) (n x)) where
    fetch_at : (x : X) → k x ≡ Some true → Free ((n x).effects ++ effect.Read (target (n x).named) ∷ []) → (r : Result ℕ Trap) → v x vs ≡ r → value_at (RExpr-F.Fetch (v x)) vs ≡ value_at (RExpr-F.Fetch (v x)) vt
    fetch_at x e fr (Err q) is =
        let es = (n x).effects in
        let same = (hx x).same true e (free_left es _ fr) in
        ap (λ r. r >>= (λ a. fetched a vs)) is ∙ sym (ap (λ r. r >>= (λ a. fetched a vt)) (sym same ∙ is))
    fetch_at x e fr (Ok a) is =
        let es = (n x).effects in
        let read = effect.Read (target (n x).named) ∷ [] in
        let same = (hx x).same true e (free_left es read fr) in
        let at : (r : Result ℕ Trap) → cell_of vs.objects a ≡ r → fetched a vs ≡ fetched a vt
        = λ r. elim r as (λ r. cell_of vs.objects a ≡ r → fetched a vs ≡ fetched a vt) [
          | Err q ↦ (λ c. ap (λ r. r >>= (λ c. Ok (slice_index_or vs.cells c 0))) c ∙ sym (ap (λ r. r >>= (λ c. Ok (slice_index_or vt.cells c 0))) (ap (λ l. cell_of l a) (sym same_objects) ∙ c)))
          | Ok c ↦ (λ e'.
              let m = touched p h (n x).named a c ((hx x).names e (free_left es read fr) a is) ((hx x).exact true e a is) (ap (λ l. cell_of l a) (sym alike.objects) ∙ e') in
              ap (λ r. r >>= (λ c. Ok (slice_index_or vs.cells c 0))) e' ∙ ap (λ a. Ok a) (same_word c (free_one (target (n x).named) c (free_right es read fr) m)) ∙ sym (ap (λ r. r >>= (λ c. Ok (slice_index_or vt.cells c 0))) (ap (λ l. cell_of l a) (sym same_objects) ∙ e')))
        ] in
        ap (λ r. r >>= (λ a. fetched a vs)) is ∙ at (cell_of vs.objects a) refl ∙ sym (ap (λ r. r >>= (λ a. fetched a vt)) (sym same ∙ is))

    move_right : (x y : X) (d : Direction) → Right (value_at (RExpr-F.Move (v x) (v y) d)) (of_move (k x) (k y)) (seen_at f (RExpr-F.Move (n x) (n y) d))
    move_right x y d = record {
      same = λ b e fr. let there = move_there (k x) (k y) b e in
          let ex = (hx x).same true there.0 (free_left (n x).effects (n y).effects fr) in
          let ey = (hx y).same false there.1 (free_right (n x).effects (n y).effects fr) in
          (λ i. ex i >>= (λ q. ey i >>= (λ a. moved (same_objects i) q (places d a))));
      names = λ e fr a is o nm. let there = move_there (k x) (k y) true e in
          let b1 = bound (v x vs) (λ q. v y vs >>= (λ a. moved vs.objects q (places d a))) a is in
          let b2 = bound (v y vs) (λ i. moved vs.objects b1.0 (places d i)) a b1.2 in
          let m = moved_found (objects p) b1.0 (places d b2.0) a (short p h) (ap (λ l. moved l b1.0 (places d b2.0)) (sym alike.objects) ∙ b2.2) in
          subst (λ z. MayCome p z o) (sym (moved_source d (n x).named (n y).named)) ((hx x).names there.0 (free_left (n x).effects (n y).effects fr) b1.0 b1.1 o (sym m.object ∙ nm.0, nm.1));
      exact = λ b e a is. let there = move_there (k x) (k y) b e in
          let b1 = bound (v x vs) (λ q. v y vs >>= (λ a. moved vs.objects q (places d a))) a is in
          let b2 = bound (v y vs) (λ i. moved vs.objects b1.0 (places d i)) a b1.2 in
          let m = moved_found (objects p) b1.0 (places d b2.0) a (short p h) (ap (λ l. moved l b1.0 (places d b2.0)) (sym alike.objects) ∙ b2.2) in
          moved_exact p h d (n x).named (n y).named b1.0 b2.0 a ((hx x).exact true there.0 b1.0 b1.1) ((hx y).exact false there.1 b2.0 b2.1) m;
    }

    both_right : (x y : X) (v' : Value) (k' : Option Bool) → ((b : Bool) → k' ≡ Some b → AreThere (k x) (k y) b) → ((v x vs ≡ v x vt) → (v y vs ≡ v y vt) → v' vs ≡ v' vt) → Right v' k' (text.computed ((n x).effects ++ (n y).effects))
    both_right x y v' k' there same = number_right v' ((n x).effects ++ (n y).effects) k' (λ b e. (there b e).4) (λ b e fr. let q = there b e in
        same ((hx x).same q.0 q.2 (free_left (n x).effects (n y).effects fr)) ((hx y).same q.1 q.3 (free_right (n x).effects (n y).effects fr)))

    layer : (e : RExpr-F X) → Right (value_at (map-RExpr X Value v e)) (kind_at w (map-RExpr X (Option Bool) k e)) (seen_at f (map-RExpr X Seen n e))
    layer (RExpr-F.Num i) = record {
      same = λ b e fr. refl;
      names = λ e fr a is o nm. absurd (false≢true (same_Some false true e));
      exact = λ b e a is. sym (same_Ok (word_of i) a is);
    }
    layer (RExpr-F.Cell c) = record {
      same = λ b e fr. ap (λ a. Ok a) (same_word c (free_one (target'.Cell c) c fr refl));
      names = λ e fr a is o nm. kept_word c (free_one (target'.Cell c) c fr refl) (world.cell c true e) o (subst (λ z. NamesObject p z o) (sym (same_Ok (word s c) a is)) nm);
      exact = λ b e a is. tt;
    }
    layer (RExpr-F.Local i) = record {
      same = λ b e fr. ap (λ (l : List ℕ). Ok (slice_index_or l i 0)) same_locals;
      names = λ e fr a is o nm. local_names f i vs.locals keep.locals (world.local i true e) o (subst (λ z. NamesObject p z o) (sym (same_Ok (slice_index_or vs.locals i 0) a is)) nm);
      exact = λ b e a is. tt;
    }
    layer (RExpr-F.Object o) = record {
      same = λ b e fr. refl;
      names = λ e fr a is q nm.
          let lt = object_within p h o (addressed_within p h o (world.has_address o (address_there o true e))) in
          let z : a / 2 ^ 32 ≡ o + 1 = ap (λ z. z / 2 ^ 32) (sym (same_Ok (object_word o) a is)) ∙ object_word_names o lt in
          let z' = nm.0 in
          omega arith;
      exact = λ b e a is. (sym (same_Ok (object_word o) a is), addressed_within p h o (world.has_address o (address_there o b e)));
    }
    layer RExpr-F.Null = record {
      same = λ b e fr. refl;
      names = λ e fr a is o nm. absurd (zero_names p o (subst (λ z. NamesObject p z o) (sym (same_Ok 0 a is)) nm));
      exact = λ b e a is. tt;
    }
    layer (RExpr-F.Unary op x) = number_right (value_at (RExpr-F.Unary op (v x))) (n x).effects (of_numbers (k x) (Some false)) (λ b e. (numbers_there (k x) (Some false) b e).4)
        (λ b e fr. let q = numbers_there (k x) (Some false) b e in ap (λ r. r >>= (λ a. Ok (unary op a))) ((hx x).same q.0 q.2 fr))
    layer (RExpr-F.Binary op x y) = both_right x y (value_at (RExpr-F.Binary op (v x) (v y))) (of_binary op (k x) (k y)) (binary_there op (k x) (k y)) (λ ex ey. (λ i. ex i >>= (λ a. ey i >>= (λ b. binary op a b))))
    layer (RExpr-F.And x y) = both_right x y (value_at (RExpr-F.And (v x) (v y))) (of_numbers (k x) (k y)) (numbers_there (k x) (k y)) (λ ex ey. (λ i. ex i >>= (λ a. if word_holds a then ey i >>= (λ b. Ok (truth_word (word_holds b))) else Ok 0)))
    layer (RExpr-F.Or x y) = both_right x y (value_at (RExpr-F.Or (v x) (v y))) (of_numbers (k x) (k y)) (numbers_there (k x) (k y)) (λ ex ey. (λ i. ex i >>= (λ a. if word_holds a then Ok 1 else ey i >>= (λ b. Ok (truth_word (word_holds b))))))
    layer (RExpr-F.Move x y d) = move_right x y d
    layer (RExpr-F.Fetch x) = number_right (value_at (RExpr-F.Fetch (v x))) ((n x).effects ++ effect.Read (target (n x).named) ∷ []) (of_pointed (k x)) (λ b e. (pointed_there (k x) b e).1)
        (λ b e fr. fetch_at x (pointed_there (k x) b e).0 fr (v x vs) refl)

  layer_of : (X : Type 0) (q : X → RExpr) → ((x : X) → Right (value (q x)) (kind w (q x)) (seen f (q x))) → (e : RExpr-F X) → Right (value_at (map-RExpr RExpr Value value (map-RExpr X RExpr q e))) (kind_at w (map-RExpr RExpr (Option Bool) (kind w) (map-RExpr X RExpr q e))) (seen_at f (map-RExpr RExpr Seen (seen f) (map-RExpr X RExpr q e)))
  layer_of X q hx (RExpr-F.Num i) = layer X (λ x. value (q x)) (λ x. kind w (q x)) (λ x. seen f (q x)) hx (RExpr-F.Num i)
  layer_of X q hx (RExpr-F.Cell c) = layer X (λ x. value (q x)) (λ x. kind w (q x)) (λ x. seen f (q x)) hx (RExpr-F.Cell c)
  layer_of X q hx (RExpr-F.Local i) = layer X (λ x. value (q x)) (λ x. kind w (q x)) (λ x. seen f (q x)) hx (RExpr-F.Local i)
  layer_of X q hx (RExpr-F.Object o) = layer X (λ x. value (q x)) (λ x. kind w (q x)) (λ x. seen f (q x)) hx (RExpr-F.Object o)
  layer_of X q hx RExpr-F.Null = layer X (λ x. value (q x)) (λ x. kind w (q x)) (λ x. seen f (q x)) hx RExpr-F.Null
  layer_of X q hx (RExpr-F.Unary op x) = layer X (λ x. value (q x)) (λ x. kind w (q x)) (λ x. seen f (q x)) hx (RExpr-F.Unary op x)
  layer_of X q hx (RExpr-F.Binary op x y) = layer X (λ x. value (q x)) (λ x. kind w (q x)) (λ x. seen f (q x)) hx (RExpr-F.Binary op x y)
  layer_of X q hx (RExpr-F.And x y) = layer X (λ x. value (q x)) (λ x. kind w (q x)) (λ x. seen f (q x)) hx (RExpr-F.And x y)
  layer_of X q hx (RExpr-F.Or x y) = layer X (λ x. value (q x)) (λ x. kind w (q x)) (λ x. seen f (q x)) hx (RExpr-F.Or x y)
  layer_of X q hx (RExpr-F.Move x y d) = layer X (λ x. value (q x)) (λ x. kind w (q x)) (λ x. seen f (q x)) hx (RExpr-F.Move x y d)
  layer_of X q hx (RExpr-F.Fetch x) = layer X (λ x. value (q x)) (λ x. kind w (q x)) (λ x. seen f (q x)) hx (RExpr-F.Fetch x)

  pub right : (e : RExpr) → Right (value e) (kind w e) (seen f e)
  right = ind-RExpr (λ e. Right (value e) (kind w e) (seen f e)) (λ x y is.
      let l = layer_of _ (λ e. e.0) (λ e. e.1) y in
      let k = subst (λ z. Right (value_at (map-RExpr RExpr Value value z)) (kind_at w (map-RExpr RExpr (Option Bool) (kind w) z)) (seen_at f (map-RExpr RExpr Seen (seen f) z))) is l in
      let k1 = subst (λ z. Right z (kind_at w (map-RExpr RExpr (Option Bool) (kind w) x)) (seen_at f (map-RExpr RExpr Seen (seen f) x))) (sym (fold-roll-RExpr Value value_at x)) k in
      let k2 = subst (λ z. Right (value (roll-RExpr x)) z (seen_at f (map-RExpr RExpr Seen (seen f) x))) (sym (fold-roll-RExpr (Option Bool) (kind_at w) x)) k1 in
      subst (λ z. Right (value (roll-RExpr x)) (kind w (roll-RExpr x)) z) (sym (fold-roll-RExpr Seen (seen_at f) x)) k2)
