-- What single statements do in two states that agree.
use Rattle.std.proofs.Common.{◌≡◌, ℕ, ◌<◌, ◌≤◌, ◌⊎◌, Bool, true, List, [], ◌∷◌, ◌++◌, set, length, get_or, Option, Some, None, Result, Ok, Err, inl, inr, ⊎_elim, refl, sym, ap, ◌∙◌, subst, arith, get_or-set_same, get_or-set_other, length-set, append_assoc}
use Rattle.std.specs.Prelude.{slice_set, is_some, ◌%◌, ◌^◌}
use Rattle.std.specs.List.{Contains}
use Rattle.std.proofs.lemmas.Bool.{cases_lt, cases_eq, and_parts, false≢true}
use Rattle.std.proofs.lemmas.Option.{none-some, same_Some}
use Rattle.std.proofs.lemmas.List.{get_or_past}
use Rattle.std.proofs.lemmas.List.Elements.{Contains-append_right, Contains-append_cases, Contains-push_cases}
use Rattle.ckpt_base.specs.declared.trap.Trap.{Trap}
use Rattle.ckpt_base.specs.Event.{Event, Wrote, Byte, Took, Excluded, Checkpoint}
use Rattle.ckpt_base.specs.Pointer.{cell_of}
use Rattle.c_tree.specs.declared.resolved.RExpr.{RExpr}
use Rattle.c_tree.specs.declared.resolved.RPlace.{RPlace}
use Rattle.c_tree.specs.declared.resolved.RPlace.TheVariants as place
use Rattle.c_tree.specs.declared.resolved.Resolved.{Resolved}
use Rattle.c_tree.specs.Layout.{objects, cell_count}
use Rattle.c_tree.specs.Kinds.{World, place_kind, of_pointed, is_variable, stores, answers, starts, kind}
use Rattle.c_tree.specs.Checked.{IsChecked, main_variable}
use Rattle.c_tree.specs.State.{State, ◌>>=◌, value, written, ToLocal, Through, write, set as assign, store, declare, with_locals, ticked}
use Rattle.alias_sets.specs.declared.flows.PointerVar.{PointerVar}
use Rattle.alias_sets.specs.declared.flows.PointerVar.TheVariants as var
use Rattle.alias_sets.specs.Flows.{variable, source}
use Rattle.alias_sets.specs.Points.{HasFlow, MayCome}
use Rattle.alias_sets.specs.Flows as text
use Rattle.access_summary.specs.declared.effects.Effect.{Effect}
use Rattle.access_summary.specs.declared.touch.Access.TheVariants as access'
use Rattle.access_summary.specs.Effects as reads
use Rattle.access_summary.specs.Effects.{seen, source_in, expr_effects, stored, pointer_effects}
use Rattle.access_summary.specs.Touch.{MayTouch, Touches}
use Rattle.access_summary.specs.declared.effects.Target.{Target as Touch}
use Rattle.access_summary.specs.declared.effects.Target.TheVariants as touch
use Rattle.flow_graph.specs.NodeEffects.{place_target}
use Rattle.flow_graph.specs.Agreement.{wrote, word, AreAlike, NamesObject, IsKept, pointer_local, KeepsLocals, KeepsPointers}
use Rattle.flow_graph.proofs.AgreeText.{nothing_more}
use Rattle.flow_graph.proofs.AgreeObjects.{cell_found, no_pointer_there, object_there}
use Rattle.flow_graph.proofs.AgreeValues.{IsLocal, IsWorldOf, zero_names, touched, Right, right, pointed_there, free_left, free_right}
use Rattle.flow_graph.proofs.AgreeFlows.{comes, come_addressed, carried, agree_some}

-- ---- the cells that count

-- what counted, and what was written
abbrev pub With : (ℕ → Type 0) → List Event → ℕ → Type 0
With E es c = E c ⊎ Contains (wrote es) c

pub nothing_there : {A : Type 0} (c : ℕ) → Contains {X = ℕ} [] c → A
nothing_there c h = absurd (omega (arith, h.1))

module _ (p : Resolved) (E E' : ℕ → Type 0) (f : Option ℕ) (less : (c : ℕ) → c < cell_count p → E' c → E c) (s t : State) where
  past_word : (u : State) (c : ℕ) → length u.variables.cells ≡ cell_count p → cell_count p ≤ c → word u c ≡ 0
  past_word u c l le = get_or_past u.variables.cells c 0 (omega arith)

  -- fewer cells count, or cells that are not there
  pub alike_less : AreAlike p E s t → AreAlike p E' s t
  alike_less a = record {
    rest = a.rest;
    objects = a.objects;
    size = a.size;
    same_size = a.same_size;
    words = λ c e. elim (cases_lt c (cell_count p)) [
      | inl lt ↦ a.words c (less c lt e)
      | inr le ↦ past_word s c a.size le ∙ sym (past_word t c a.same_size le)
    ];
  }

  pub keeps_less : AreAlike p E s t → KeepsPointers p E f s → KeepsPointers p E' f s
  keeps_less a k = record {
    cells = λ c e m. elim (cases_lt c (cell_count p)) [
      | inl lt ↦ k.cells c (less c lt e) m
      | inr le ↦ (λ o n. absurd (zero_names p o (subst (λ a. NamesObject p a o) (past_word s c a.size le) n)))
    ];
    locals = k.locals;
  }

-- ---- what an action did in two states

-- it did the same, wrote these cells, and among them all that it kills
pub record Did (p : Resolved) (E : ℕ → Type 0) (f : Option ℕ) (K : ℕ → Type 0) (s s' t' : State) : Type 0 where
  pub more : List Event
  pub events : s'.events ≡ s.events ++ more
  pub alike : AreAlike p (With E more) s' t'
  pub keeps : KeepsPointers p (With E more) f s'
  pub killed : (c : ℕ) → K c → Contains (wrote more) c

-- it came to the same trap, or did the same
abbrev pub DidAlike : Resolved → (ℕ → Type 0) → Option ℕ → (ℕ → Type 0) → State → Result State Trap → Result State Trap → Type 0
DidAlike p E f K s (Ok s') (Ok t') = Did p E f K s s' t'
DidAlike p E f K s (Err a) (Err b) = a ≡ b
DidAlike p E f K s (Ok s') (Err b) = ⊥
DidAlike p E f K s (Err a) (Ok t') = ⊥

abbrev pub Never : ℕ → Type 0
Never c = ⊥

-- one word written at one place of two lists
same_write : (s t : List ℕ) (d v c : ℕ) → length s ≡ length t → ((c ≡ d → ⊥) → get_or s c 0 ≡ get_or t c 0) → get_or (set s d v) c 0 ≡ get_or (set t d v) c 0
same_write s t d v c l h =
    elim (cases_eq c d) [
      | inr ne ↦ get_or-set_other s d c v 0 ne ∙ h ne ∙ sym (get_or-set_other t d c v 0 ne)
      | inl e ↦ elim (cases_lt d (length s)) [
        | inl in' ↦ ap (λ k. get_or (set s d v) k 0) e ∙ get_or-set_same s d v 0 in' ∙ sym (get_or-set_same t d v 0 (omega arith)) ∙ ap (λ k. get_or (set t d v) k 0) (sym e)
        | inr out ↦ get_or_past (set s d v) c 0 (omega (arith, length-set s d v)) ∙ sym (get_or_past (set t d v) c 0 (omega (arith, length-set t d v)))
      ]
    ]

-- a word that is written at a place stands there, or 0 where there is none
pub written_word : (P : ℕ → Type 0) (s : List ℕ) (d v c : ℕ) → P 0 → (c ≡ d → P v) → ((c ≡ d → ⊥) → P (get_or s c 0)) → P (get_or (set s d v) c 0)
written_word P s d v c z h k =
    elim (cases_eq c d) [
      | inr ne ↦ subst P (sym (get_or-set_other s d c v 0 ne)) (k ne)
      | inl e ↦ elim (cases_lt d (length s)) [
        | inl in' ↦ subst P (sym (ap (λ k. get_or (set s d v) k 0) e ∙ get_or-set_same s d v 0 in')) (h e)
        | inr out ↦ subst P (sym (get_or_past (set s d v) c 0 (omega (arith, length-set s d v)))) z
      ]
    ]

pub zero_kept : (p : Resolved) (v : PointerVar) → IsKept p v 0
zero_kept p v o n = absurd (zero_names p o n)

module _ (p : Resolved) (E : ℕ → Type 0) (f : Option ℕ) (s t : State) (alike : AreAlike p E s t) (keep : KeepsPointers p E f s) where
  still : (es : List Event) → wrote es ≡ [] → (c : ℕ) → With E es c → E c
  still es none c (inl e) = e
  still es none c (inr x) = nothing_there c (subst (λ l. Contains l c) none x)

  -- nothing is done
  pub did_nothing : (K : ℕ → Type 0) → ((c : ℕ) → K c → ⊥) → Did p E f K s s t
  did_nothing K never = record {
    more = [];
    events = sym (nothing_more None s.events);
    alike = record { rest = alike.rest; objects = alike.objects; size = alike.size; same_size = alike.same_size; words = λ c e. alike.words c (still [] refl c e) };
    keeps = record { cells = λ c e m. keep.cells c (still [] refl c e) m; locals = keep.locals };
    killed = λ c k. absurd (never c k);
  }

  abbrev pub with_events : List Event → State → State
  with_events es u = record u { events = u.events ++ es }

  -- events that write no cell
  pub did_events : (es : List Event) → wrote es ≡ [] → (K : ℕ → Type 0) → ((c : ℕ) → K c → ⊥) → Did p E f K s (with_events es s) (with_events es t)
  did_events es none K never = record {
    more = es;
    events = refl;
    alike = record { rest = ap (with_events es) alike.rest; objects = alike.objects; size = alike.size; same_size = alike.same_size; words = λ c e. alike.words c (still es none c e) };
    keeps = record { cells = λ c e m. keep.cells c (still es none c e) m; locals = keep.locals };
    killed = λ c k. absurd (never c k);
  }

  -- a word is written into a cell
  pub did_write : (K : ℕ → Type 0) (c a : ℕ) → (main_variable p c ≡ Some true → IsKept p (var.Cell c) a) → ((d : ℕ) → K d → d ≡ c) → Did p E f K s (written c a s) (written c a t)
  did_write K c a h k = record {
    more = Wrote c ∷ [];
    events = refl;
    alike = record {
      rest = ap (written c a) alike.rest;
      objects = alike.objects;
      size = length-set s.variables.cells c a ∙ alike.size;
      same_size = length-set t.variables.cells c a ∙ alike.same_size;
      words = λ d e. same_write s.variables.cells t.variables.cells c a d (alike.size ∙ sym alike.same_size) (λ ne. alike.words d (other d ne e));
    };
    keeps = record {
      cells = λ d e m. written_word (IsKept p (var.Cell d)) s.variables.cells c a d (zero_kept p (var.Cell d)) (λ q. subst (λ j. IsKept p (var.Cell j) a) (sym q) (h (ap (main_variable p) (sym q) ∙ m))) (λ ne. keep.cells d (other d ne e) m);
      locals = keep.locals;
    };
    killed = λ d x. (0, omega arith, sym (k d x));
  }
    where
      other : (d : ℕ) → (d ≡ c → ⊥) → With E (Wrote c ∷ []) d → E d
      other d ne (inl e) = e
      other d ne (inr x) = ⊎_elim (λ y. nothing_there d y) (λ y. absurd (ne (sym y))) (Contains-push_cases [] c d x)

  -- the word fits local i of a function
  abbrev pub FitsLocal : Option ℕ → ℕ → ℕ → Type 0
  FitsLocal None i a = Unit {0}
  FitsLocal (Some k) i a = pointer_local p k i ≡ Some true → IsKept p (var.Local k i) a

  locals_after : (g : Option ℕ) (ls : List ℕ) (i a : ℕ) → KeepsLocals p g ls → FitsLocal g i a → KeepsLocals p g (set ls i a)
  locals_after None ls i a k h = tt
  locals_after (Some g) ls i a k h = λ j m. written_word (IsKept p (var.Local g j)) ls i a j (zero_kept p (var.Local g j)) (λ e. subst (λ x. IsKept p (var.Local g x) a) (sym e) (h (ap (pointer_local p g) (sym e) ∙ m))) (λ ne. k j m)

  abbrev with_local : ℕ → ℕ → State → State
  with_local i a u = record u { variables = record u.variables { locals = slice_set u.variables.locals i a } }

  -- a word is written into a local
  pub did_local : (K : ℕ → Type 0) → ((c : ℕ) → K c → ⊥) → (i a : ℕ) → FitsLocal f i a → Did p E f K s (with_local i a s) (with_local i a t)
  did_local K never i a h = record {
    more = [];
    events = sym (nothing_more None s.events);
    alike = record { rest = ap (with_local i a) alike.rest; objects = alike.objects; size = alike.size; same_size = alike.same_size; words = λ c e. alike.words c (still [] refl c e) };
    keeps = record { cells = λ c e m. keep.cells c (still [] refl c e) m; locals = locals_after f s.variables.locals i a keep.locals h };
    killed = λ c k. absurd (never c k);
  }

  -- a tick, and other locals
  pub ticked_alike : AreAlike p E (ticked s) (ticked t)
  ticked_alike = record { rest = ap ticked alike.rest; objects = alike.objects; size = alike.size; same_size = alike.same_size; words = alike.words }

  pub ticked_keeps : KeepsPointers p E f (ticked s)
  ticked_keeps = record { cells = keep.cells; locals = keep.locals }

  pub locals_alike : (ls : List ℕ) → AreAlike p E (with_locals ls s) (with_locals ls t)
  locals_alike ls = record { rest = ap (with_locals ls) alike.rest; objects = alike.objects; size = alike.size; same_size = alike.same_size; words = alike.words }

  pub locals_keep : (g : Option ℕ) (ls : List ℕ) → KeepsLocals p g ls → KeepsPointers p E g (with_locals ls s)
  locals_keep g ls k = record { cells = keep.cells; locals = k }

-- ---- one thing after the other

pub wrote_both : (xs ys : List Event) → wrote (xs ++ ys) ≡ wrote xs ++ wrote ys
wrote_both [] ys = refl
wrote_both (Wrote c ∷ xs) ys = ap (λ l. c ∷ l) (wrote_both xs ys)
wrote_both (Byte b ∷ xs) ys = wrote_both xs ys
wrote_both (Took ∷ xs) ys = wrote_both xs ys
wrote_both (Excluded k ∷ xs) ys = wrote_both xs ys
wrote_both (Checkpoint m t ∷ xs) ys = wrote_both xs ys

module _ (p : Resolved) (E : ℕ → Type 0) (f : Option ℕ) (K : ℕ → Type 0) (s s1 t1 : State) (first : Did p E f Never s s1 t1) where
  both_less : (es : List Event) (c : ℕ) → With E (first.more ++ es) c → With (With E first.more) es c
  both_less es c (inl e) = inl (inl e)
  both_less es c (inr x) = ⊎_elim (λ y. inl (inr y)) (λ y. inr y) (Contains-append_cases (wrote first.more) (wrote es) c (subst (λ l. Contains l c) (wrote_both first.more es) x))

  pub did_then : (r r' : Result State Trap) → DidAlike p (With E first.more) f K s1 r r' → DidAlike p E f K s r r'
  did_then (Ok u) (Ok v) d = record {
    more = first.more ++ d.more;
    events = d.events ∙ ap (λ l. l ++ d.more) first.events ∙ append_assoc s.events first.more d.more;
    alike = alike_less p (With (With E first.more) d.more) (With E (first.more ++ d.more)) f (λ c lt e. both_less d.more c e) u v d.alike;
    keeps = keeps_less p (With (With E first.more) d.more) (With E (first.more ++ d.more)) f (λ c lt e. both_less d.more c e) u v d.alike d.keeps;
    killed = λ c k. subst (λ l. Contains l c) (sym (wrote_both first.more d.more)) (Contains-append_right (wrote first.more) (wrote d.more) c (d.killed c k));
  }
  did_then (Err a) (Err b) d = d
  did_then (Ok u) (Err b) d = d
  did_then (Err a) (Ok v) d = d

-- ---- stores

-- the one cell that a store at this place may touch
abbrev pub KilledBy : Resolved → Option ℕ → Option RPlace → ℕ → Type 0
KilledBy p f o c = (x : Touch) × (place_target f o ≡ Some x) × MayTouch p x c × ((d : ℕ) → MayTouch p x d → d ≡ c)

module _ (p : Resolved) (h : IsChecked p) (f : Option ℕ) (w : World) (world : IsWorldOf p f w) (E : ℕ → Type 0) (s t : State) (alike : AreAlike p E s t) (keep : KeepsPointers p E f s) where
  -- what is done with a value, in both
  module _ (K : ℕ → Type 0) (k k' : ℕ → Result State Trap) where
    pub on_value : (r r' : Result ℕ Trap) → r ≡ r' → ((a : ℕ) → r ≡ Ok a → DidAlike p E f K s (k a) (k' a)) → DidAlike p E f K s (r >>= k) (r' >>= k')
    on_value r r' e d = subst (λ x. DidAlike p E f K s (r >>= k) (x >>= k')) e (own r d)
      where
        own : (r : Result ℕ Trap) → ((a : ℕ) → r ≡ Ok a → DidAlike p E f K s (k a) (k' a)) → DidAlike p E f K s (r >>= k) (r >>= k')
        own (Ok a) d = d a refl
        own (Err x) d = refl

  -- a word fits a place
  abbrev pub FitsPlace : RPlace → ℕ → Type 0
  FitsPlace (place.Cell c) a = main_variable p c ≡ Some true → IsKept p (var.Cell c) a
  FitsPlace (place.Local i) a = FitsLocal p E f s t alike keep f i a
  FitsPlace (place.At e) a = Unit {0}

  local_fits : (g : Option ℕ) (i a : ℕ) (b : Bool) → IsLocal p g i b → (b ≡ true → (v : PointerVar) → text.local_of g i ≡ Some v → IsKept p v a) → FitsLocal p E f s t alike keep g i a
  local_fits None i a b l k = tt
  local_fits (Some g) i a b l k = λ m. k (same_Some b true (sym l ∙ m)) (var.Local g i) refl

  pub place_fits : (pl : RPlace) (a : ℕ) (b : Bool) → place_kind w pl ≡ Some b → (b ≡ true → (v : PointerVar) → variable f pl ≡ Some v → IsKept p v a) → FitsPlace pl a
  place_fits (place.Cell c) a b e k = λ m. k (same_Some b true (sym (world.cell c b e) ∙ m)) (var.Cell c) refl
  place_fits (place.Local i) a b e k = local_fits f i a b (world.local i b e) k
  place_fits (place.At q) a b e k = tt

  zero_fits : (pl : RPlace) → FitsPlace pl 0
  zero_fits (place.Cell c) = λ m. zero_kept p (var.Cell c)
  zero_fits (place.Local i) = zero_local f
    where
      zero_local : (g : Option ℕ) → FitsLocal p E f s t alike keep g i 0
      zero_local None = tt
      zero_local (Some g) = λ m. zero_kept p (var.Local g i)
  zero_fits (place.At q) = tt

  cell_killed : (c d : ℕ) → KilledBy p f (Some (place.Cell c)) d → d ≡ c
  cell_killed c d k = subst (λ (x : Touch). MayTouch p x d) (sym (same_Some (touch.Cell c) k.0 k.1)) k.2

  local_killed : (i c : ℕ) → KilledBy p f (Some (place.Local i)) c → ⊥
  local_killed i c k = none-some k.0 k.1

  -- a word is stored in a variable
  pub did_store_variable : (pl : RPlace) (a : ℕ) → is_variable w pl ≡ true → FitsPlace pl a → DidAlike p E f (KilledBy p f (Some pl)) s (store (Some pl) a s) (store (Some pl) a t)
  did_store_variable (place.Cell c) a v fits = did_write p E f s t alike keep (KilledBy p f (Some (place.Cell c))) c a fits (cell_killed c)
  did_store_variable (place.Local i) a v fits = did_local p E f s t alike keep (KilledBy p f (Some (place.Local i))) (local_killed i) i a fits
  did_store_variable (place.At q) a v fits = absurd (false≢true v)

  -- an answer is stored
  pub did_store : (o : Option RPlace) (a : ℕ) (v : Option Bool) → answers w o v ≡ true → (v ≡ Some true → (x : PointerVar) → text.perhaps_variable f o ≡ Some x → IsKept p x a) → DidAlike p E f (KilledBy p f o) s (store o a s) (store o a t)
  did_store None a v an k = did_nothing p E f s t alike keep (KilledBy p f None) (λ c z. none-some z.0 z.1)
  did_store (Some pl) a v an k =
      let q = and_parts (is_variable w pl) (stores w pl v) an in
      let z = agree_some (place_kind w pl) v q.1 in
      did_store_variable pl a q.0 (place_fits pl a z.0 z.1 (λ b x e. k (z.2 ∙ ap (λ y. Some y) b) x e))

  abbrev R : (e : RExpr) → Type 0
  R e = Right p h f w world E s t alike keep (value e) (kind w e) (seen f e)

  abbrev pub Reads : List Effect → Type 0
  Reads es = (c : ℕ) → c < cell_count p → Touches p access'.Read es c → E c

  rightly : (e : RExpr) → R e
  rightly e = right p h f w world E s t alike keep e

  -- what a value of an expression names
  pub value_comes : (e : RExpr) (b : Bool) → kind w e ≡ Some b → b ≡ true → Reads (expr_effects f e) → (a : ℕ) → value e s.variables ≡ Ok a → (o : ℕ) → NamesObject p a o → MayCome p (source f e) o
  value_comes e b k tr fr a is o n = subst (λ z. MayCome p z o) (comes p f w world e).same ((rightly e).names (k ∙ ap (λ x. Some x) tr) fr a is o n)

  -- a value flows into a variable
  pub value_kept : (e : RExpr) (b : Bool) → kind w e ≡ Some b → b ≡ true → Reads (expr_effects f e) → (a : ℕ) → value e s.variables ≡ Ok a → (v : PointerVar) → HasFlow (text.flows p) v (source f e) → IsKept p v a
  value_kept e b k tr fr a is v fl o n = carried p v (source f e) o fl (value_comes e b k tr fr a is o n)

  pub same_value : (e : RExpr) (b : Bool) → kind w e ≡ Some b → Reads (expr_effects f e) → value e s.variables ≡ value e t.variables
  same_value e b k fr = (rightly e).same b k fr

  -- a store through a pointer
  through_did : (q : RExpr) (a v : ℕ) → kind w q ≡ Some true → Reads (expr_effects f q) → value q s.variables ≡ Ok a → (r : Result ℕ Trap) → cell_of s.variables.objects a ≡ r → DidAlike p E f (KilledBy p f (Some (place.At q))) s (write (Through a) v s) (write (Through a) v t)
  through_did q a v k fr is r e =
      subst (λ x. DidAlike p E f (KilledBy p f (Some (place.At q))) s (x >>= (λ c. Ok (written c v s))) (cell_of t.variables.objects a >>= (λ c. Ok (written c v t)))) (sym e)
      (subst (λ x. DidAlike p E f (KilledBy p f (Some (place.At q))) s (r >>= (λ c. Ok (written c v s))) (x >>= (λ c. Ok (written c v t)))) (sym (ap (λ (u : State). cell_of u.variables.objects a) alike.rest ∙ e)) (own r e))
    where
      own : (r : Result ℕ Trap) → cell_of s.variables.objects a ≡ r → DidAlike p E f (KilledBy p f (Some (place.At q))) s (r >>= (λ c. Ok (written c v s))) (r >>= (λ c. Ok (written c v t)))
      own (Err x) e = refl
      own (Ok c) e =
          let e' = ap (λ l. cell_of l a) (sym alike.objects) ∙ e in
          let z = cell_found (objects p) a c e' in
          let names = (rightly q).names k fr a is in
          let m = touched p h (seen f q).named a c names ((rightly q).exact true k a is) e' in
          let there = come_addressed p h (source f q) z.object ((comes p f w world q).addressed true k) (value_comes q true k refl fr a is z.object (z.names, object_there p z.object z.block z.is)) in
          did_write p E f s t alike keep (KilledBy p f (Some (place.At q))) c v
          (λ y. absurd (no_pointer_there p z.object (a % 2 ^ 32) c z.block z.is z.within z.cell there y))
          (λ d y. sym (y.3 c (subst (λ (x : Touch). MayTouch p x c) (same_Some (reads.target (seen f q).named) y.0 y.1) m)))

  -- a value is stored
  pub did_set : (pl : RPlace) (e : RExpr) → stores w pl (kind w e) ≡ true → Reads (stored f pl (expr_effects f e)) → ((v : PointerVar) → variable f pl ≡ Some v → HasFlow (text.flows p) v (source f e))
      → DidAlike p E f (KilledBy p f (Some pl)) s (assign pl e s) (assign pl e t)
  did_set (place.Cell c) e st fr fl =
      let z = agree_some (w.cell c) (kind w e) st in
      let fe = free_left p h f w world E s t alike keep (expr_effects f e) (reads.written f (place.Cell c)) fr in
      on_value (KilledBy p f (Some (place.Cell c))) (λ a. Ok (written c a s)) (λ a. Ok (written c a t)) (value e s.variables) (value e t.variables) (same_value e z.0 z.2 fe)
      (λ a is. did_store_variable (place.Cell c) a (there z.0 z.1) (place_fits (place.Cell c) a z.0 z.1 (λ b v y. value_kept e z.0 z.2 b fe a is v (fl v y))))
    where
      there : (b : Bool) → w.cell c ≡ Some b → is_some (w.cell c) ≡ true
      there b e = ap is_some e
  did_set (place.Local i) e st fr fl =
      let z = agree_some (w.local i) (kind w e) st in
      let fe = free_left p h f w world E s t alike keep (expr_effects f e) (reads.written f (place.Local i)) fr in
      on_value (KilledBy p f (Some (place.Local i))) (λ a. write (ToLocal i) a s) (λ a. write (ToLocal i) a t) (value e s.variables) (value e t.variables) (same_value e z.0 z.2 fe)
      (λ a is. did_store_variable (place.Local i) a (ap is_some z.1) (place_fits (place.Local i) a z.0 z.1 (λ b v y. value_kept e z.0 z.2 b fe a is v (fl v y))))
  did_set (place.At q) e st fr fl =
      let z = agree_some (of_pointed (kind w q)) (kind w e) st in
      let y = pointed_there (kind w q) z.0 z.1 in
      let fq = free_left p h f w world E s t alike keep (expr_effects f q) (expr_effects f e ++ reads.written f (place.At q)) fr in
      let fe = free_left p h f w world E s t alike keep (expr_effects f e) (reads.written f (place.At q)) (free_right p h f w world E s t alike keep (expr_effects f q) (expr_effects f e ++ reads.written f (place.At q)) fr) in
      subst (λ x. DidAlike p E f (KilledBy p f (Some (place.At q))) s ((value q s.variables >>= (λ a. Ok (Through a))) >>= (λ c. value e s.variables >>= (λ a. write c a s))) ((x >>= (λ a. Ok (Through a))) >>= (λ c. value e t.variables >>= (λ a. write c a t)))) (same_value q true y.0 fq)
      (own fe z.0 z.2 y.0 fq (value q s.variables) refl)
    where
      own : Reads (expr_effects f e) → (b : Bool) → kind w e ≡ Some b → kind w q ≡ Some true → Reads (expr_effects f q) → (r : Result ℕ Trap) → value q s.variables ≡ r
          → DidAlike p E f (KilledBy p f (Some (place.At q))) s ((r >>= (λ a. Ok (Through a))) >>= (λ c. value e s.variables >>= (λ a. write c a s))) ((r >>= (λ a. Ok (Through a))) >>= (λ c. value e t.variables >>= (λ a. write c a t)))
      own fe b kb kq fq (Err x) is = refl
      own fe b kb kq fq (Ok a) is = on_value (KilledBy p f (Some (place.At q))) (λ v. write (Through a) v s) (λ v. write (Through a) v t) (value e s.variables) (value e t.variables) (same_value e b kb fe)
          (λ v iv. through_did q a v kq fq is (cell_of s.variables.objects a) refl)

  -- a variable is declared
  pub did_declare : (pl : RPlace) (o : Option RExpr) → starts w pl o ≡ true → Reads (stored f pl (reads.test_effects f o)) → ((e : RExpr) (v : PointerVar) → o ≡ Some e → variable f pl ≡ Some v → HasFlow (text.flows p) v (source f e))
      → DidAlike p E f (KilledBy p f (Some pl)) s (declare pl o s) (declare pl o t)
  did_declare pl None st fr fl = did_store_variable pl 0 st (zero_fits pl)
  did_declare pl (Some e) st fr fl = did_set pl e (and_parts (is_variable w pl) (stores w pl (kind w e)) st).1 fr (λ v y. fl e v refl y)
