-- What single statements show.
use Rattle.std.proofs.Common.{◌≡◌, ℕ, ◌+◌, ◌-◌, ◌<◌, Bool, true, false, cond, List, [], ◌∷◌, ◌++◌, map, length, Option, Some, None, Result, Ok, Err, inl, inr, refl, sym, ap, ◌∙◌, arith, append_assoc}
use Rattle.std.specs.Prelude.{slice_get, slice_set, is_some}
use Rattle.std.specs.Option.{option_map}
use Rattle.std.proofs.lemmas.Bool.{cases_lt, and_parts, false≢true, le-ltb}
use Rattle.std.proofs.lemmas.Option.{none-some, slice_get_within}
use Rattle.ckpt_base.specs.declared.trap.Trap.{Trap}
use Rattle.ckpt_base.specs.Event.{Event, Wrote, Byte}
use Rattle.ckpt_base.specs.Pointer.{cell_of}
use Rattle.ckpt_base.specs.Run.{Run}
use Rattle.ckpt_base.specs.Word.{word_low_byte}
use Rattle.c_tree.specs.declared.tree.PrintPiece.{PrintPiece}
use Rattle.c_tree.specs.declared.resolved.RLocal.{RLocal}
use Rattle.c_tree.specs.declared.resolved.RExpr.{RExpr}
use Rattle.c_tree.specs.declared.resolved.RPlace.{RPlace}
use Rattle.c_tree.specs.declared.resolved.RPlace.TheVariants as place
use Rattle.c_tree.specs.declared.resolved.Resolved.{Resolved}
use Rattle.c_tree.specs.Layout.{objects, object_cells, cell_count}
use Rattle.c_tree.specs.Kinds.{World, is_variable, stores, starts, of_pointed, kind}
use Rattle.c_tree.specs.Checked.{IsChecked, file_variable, local_kind, main_variable}
use Rattle.c_tree.specs.State.{State, ◌>>=◌, value, values, written, ToLocal, Through, write, set as assign, store, declare, put, write_out, printed, with_event}
use Rattle.access_summary.specs.declared.effects.Effect.{Effect}
use Rattle.access_summary.specs.declared.effects.Effect.TheVariants as effect
use Rattle.access_summary.specs.declared.effects.Target.TheVariants as touch
use Rattle.access_summary.specs.declared.touch.Access.TheVariants as access'
use Rattle.access_summary.specs.Effects as reads
use Rattle.access_summary.specs.Effects.{seen, expr_effects, stored}
use Rattle.access_summary.specs.Touch.{Touches}
use Rattle.flow_graph.specs.Agreement.{AreAlike, KeepsPointers}
use Rattle.flow_graph.specs.RunWalks.{ShowsOnly}
use Rattle.flow_graph.proofs.AgreeText.{nothing_more}
use Rattle.flow_graph.proofs.AgreeObjects.{cell_found}
use Rattle.flow_graph.proofs.AgreeValues.{IsWorldOf, touched, touches_left, Right, right, pointed_there}
use Rattle.flow_graph.proofs.AgreeFlows.{agree_some}
use Rattle.flow_graph.proofs.EffectLaws.{lies_within}
use Rattle.flow_graph.proofs.WalkEvents.{only_both}

-- ---- what was shown between two states

-- stores into cells that pass, bytes written and bytes taken
pub record Showed (P : ℕ → Type 0) (s u : State) : Type 0 where
  pub more : List Event
  pub events : u.events ≡ s.events ++ more
  pub only : ShowsOnly P more

-- the same, until a run was over
pub record Stopped (P : ℕ → Type 0) (s : State) (r : Run) : Type 0 where
  pub more : List Event
  pub events : r.events ≡ s.events ++ more
  pub only : ShowsOnly P more

-- an action showed no more, or trapped
abbrev pub ShowedBy : (ℕ → Type 0) → State → Result State Trap → Type 0
ShowedBy P s (Ok u) = Showed P s u
ShowedBy P s (Err t) = Unit {0}

module _ (P : ℕ → Type 0) where
  pub nothing : (s u : State) → u.events ≡ s.events → Showed P s u
  nothing s u e = record { more = []; events = e ∙ sym (nothing_more None s.events); only = tt }

  pub showed_then : (s u v : State) → Showed P s u → Showed P u v → Showed P s v
  showed_then s u v a b = record {
    more = a.more ++ b.more;
    events = b.events ∙ ap (λ es. es ++ b.more) a.events ∙ append_assoc s.events a.more b.more;
    only = only_both P a.more b.more a.only b.only;
  }

  pub then_by : (s u : State) (r : Result State Trap) → Showed P s u → ShowedBy P u r → ShowedBy P s r
  then_by s u (Ok v) a b = showed_then s u v a b
  then_by s u (Err t) a b = tt

  -- what is done with a value
  pub with_value : {A : Type 0} (s : State) (r : Result A Trap) (k : A → Result State Trap) → ((a : A) → r ≡ Ok a → ShowedBy P s (k a)) → ShowedBy P s (r >>= k)
  with_value s (Ok a) k d = d a refl
  with_value s (Err t) k d = tt

  only_bytes : (bs : List ℕ) → ShowsOnly P (map Byte bs)
  only_bytes [] = tt
  only_bytes (b ∷ bs) = only_bytes bs

  pub put_shows : (s : State) (e : RExpr) → ShowedBy P s (put e s)
  put_shows s e = with_value s (value e s.variables) (λ a. Ok (with_event (Byte (word_low_byte a)) s)) (λ a is. record { more = Byte (word_low_byte a) ∷ []; events = refl; only = tt })

  pub print_shows : (s : State) (ps : List PrintPiece) (es : List RExpr) → ShowedBy P s (write_out ps es s)
  print_shows s ps es = with_value s (values es s.variables) (λ as'. Ok (record s { events = s.events ++ map Byte (printed ps as') })) (λ as' is. record { more = map Byte (printed ps as'); events = refl; only = only_bytes (printed ps as') })

-- ---- stores

-- a cell that is a variable of `main` is one of the program's
variable_within : (p : Resolved) (c : ℕ) (b : Bool) → main_variable p c ≡ Some b → c < cell_count p
variable_within p c b e = elim (cases_lt c (object_cells p.objects)) [
  | inl lt ↦ omega arith
  | inr le ↦ (let l = there (slice_get p.main.locals (c - object_cells p.objects)) refl (sym (ap (λ (t : Bool). cond t (file_variable p.objects c) (local_kind p.main.locals (c - object_cells p.objects))) (le-ltb c (object_cells p.objects) le)) ∙ e) in omega (arith, l))
]
  where
    there : (x : Option RLocal) → slice_get p.main.locals (c - object_cells p.objects) ≡ x → option_map (λ (l : RLocal). l.is_pointer) (slice_get p.main.locals (c - object_cells p.objects)) ≡ Some b → c - object_cells p.objects < length p.main.locals
    there None is h = absurd (none-some b (sym (ap (option_map (λ (l : RLocal). l.is_pointer)) is) ∙ h))
    there (Some x) is h = slice_get_within p.main.locals (c - object_cells p.objects) x is

module _ (p : Resolved) (f : Option ℕ) (w : World) (world : IsWorldOf p f w) (P : ℕ → Type 0) (s : State) where
  -- what these effects write passes
  abbrev pub May : List Effect → Type 0
  May es = (c : ℕ) → c < cell_count p → Touches p access'.Write es c → P c

  there_is : (o : Option Bool) → is_some o ≡ true → (b : Bool) × (o ≡ Some b)
  there_is None e = absurd (false≢true e)
  there_is (Some b) e = (b, refl)

  written_shows : (c a : ℕ) → P c → Showed P s (written c a s)
  written_shows c a m = record { more = Wrote c ∷ []; events = refl; only = (m, tt) }

  cell_may : (c : ℕ) → is_some (w.cell c) ≡ true → May (reads.written f (place.Cell c)) → P c
  cell_may c v m = let b = there_is (w.cell c) v in m c (variable_within p c b.0 (world.cell c b.0 b.1)) (0, effect.Write (touch.Cell c), refl, (touch.Cell c, refl, refl))

  -- a word is stored in a variable
  pub variable_shows : (pl : RPlace) (a : ℕ) → is_variable w pl ≡ true → May (reads.written f pl) → ShowedBy P s (store (Some pl) a s)
  variable_shows (place.Cell c) a v m = written_shows c a (cell_may c v m)
  variable_shows (place.Local i) a v m = nothing P s (record s { variables = record s.variables { locals = slice_set s.variables.locals i a } }) refl
  variable_shows (place.At q) a v m = absurd (false≢true v)

module _ (p : Resolved) (h : IsChecked p) (f : Option ℕ) (w : World) (world : IsWorldOf p f w) (E P : ℕ → Type 0) (s : State) (alike : AreAlike p E s s) (keep : KeepsPointers p E f s) where
  abbrev pub Reads : List Effect → Type 0
  Reads es = (c : ℕ) → c < cell_count p → Touches p access'.Read es c → E c

  abbrev Writes : List Effect → Type 0
  Writes es = May p f w world P s es

  rightly : (e : RExpr) → Right p h f w world E s s alike keep (value e) (kind w e) (seen f e)
  rightly e = right p h f w world E s s alike keep e

  -- a store through a pointer
  through_shows : (q : RExpr) (a v : ℕ) → kind w q ≡ Some true → Reads (expr_effects f q) → value q s.variables ≡ Ok a → Writes (reads.written f (place.At q)) → ShowedBy P s (write (Through a) v s)
  through_shows q a v k fr is m = with_value P s (cell_of s.variables.objects a) (λ c. Ok (written c v s)) (λ c e.
      let e' = ap (λ l. cell_of l a) (sym alike.objects) ∙ e in
      let z = cell_found (objects p) a c e' in
      let t = touched p h (seen f q).named a c ((rightly q).names k fr a is) ((rightly q).exact true k a is) e' in
      written_shows p f w world P s c v (m c (lies_within p z.object c (z.block, z.is, omega (arith, z.cell), omega (arith, z.cell, z.within))) (0, effect.Write (reads.target (seen f q).named), refl, (reads.target (seen f q).named, refl, t))))

  -- a value is stored
  pub set_shows : (pl : RPlace) (e : RExpr) → stores w pl (kind w e) ≡ true → Reads (stored f pl (expr_effects f e)) → Writes (reads.written f pl) → ShowedBy P s (assign pl e s)
  set_shows (place.Cell c) e st fr m =
      let z = agree_some (w.cell c) (kind w e) st in
      with_value P s (value e s.variables) (λ a. Ok (written c a s)) (λ a is. written_shows p f w world P s c a (cell_may p f w world P s c (ap is_some z.1) m))
  set_shows (place.Local i) e st fr m =
      with_value P s (value e s.variables) (λ a. write (ToLocal i) a s) (λ a is. nothing P s (record s { variables = record s.variables { locals = slice_set s.variables.locals i a } }) refl)
  set_shows (place.At q) e st fr m = by (value q s.variables) refl
    where
      known : kind w q ≡ Some true
      known = let z = agree_some (of_pointed (kind w q)) (kind w e) st in (pointed_there (kind w q) z.0 z.1).0

      by : (r : Result ℕ Trap) → value q s.variables ≡ r → ShowedBy P s ((r >>= (λ a. Ok (Through a))) >>= (λ c. value e s.variables >>= (λ a. write c a s)))
      by (Err x) is = tt
      by (Ok a) is = with_value P s (value e s.variables) (λ v. write (Through a) v s)
          (λ v iv. through_shows q a v known (λ c lt t. fr c lt (touches_left p access'.Read (expr_effects f q) (expr_effects f e ++ reads.written f (place.At q)) c t)) is m)

  -- a variable is declared
  pub declare_shows : (pl : RPlace) (o : Option RExpr) → starts w pl o ≡ true → Reads (stored f pl (reads.test_effects f o)) → Writes (reads.written f pl) → ShowedBy P s (declare pl o s)
  declare_shows pl None st fr m = variable_shows p f w world P s pl 0 st m
  declare_shows pl (Some e) st fr m = set_shows pl e (and_parts (is_variable w pl) (stores w pl (kind w e)) st).1 fr m
