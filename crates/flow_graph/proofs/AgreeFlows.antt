-- What the text says of pointers and calls, node by node.
use Rattle.std.proofs.Common.{◌≡◌, ℕ, zero, suc, ◌+◌, Bool, true, false, cond, List, [], ◌∷◌, ◌++◌, Option, Some, None, inl, inr, refl, sym, ap, ◌∙◌, subst, arith}
use Rattle.std.specs.Prelude.{slice_get, slice_index_or, if◌then◌else◌, is_some}
use Rattle.std.specs.List.{list_all}
use Rattle.std.proofs.lemmas.Bool.{cases_Bool, and_parts, false≢true}
use Rattle.std.proofs.lemmas.Option.{none-some, same_Some}
use Rattle.c_tree.specs.declared.resolved.Direction.{Direction}
use Rattle.c_tree.specs.declared.resolved.Direction.TheVariants.{Forward}
use Rattle.c_tree.specs.declared.resolved.RExpr.{RExpr}
use Rattle.c_tree.specs.declared.resolved.RExpr.TheOpen.{RExpr-F}
use Rattle.c_tree.specs.declared.resolved.RExpr.TheViews.{roll-RExpr}
use Rattle.c_tree.specs.declared.resolved.RExpr.TheFolds.{map-RExpr, fold-roll-RExpr, ind-RExpr}
use Rattle.c_tree.specs.declared.resolved.RPlace.{RPlace}
use Rattle.c_tree.specs.declared.resolved.RFunction.{RFunction}
use Rattle.c_tree.specs.declared.resolved.RStmt.{RStmt}
use Rattle.c_tree.specs.declared.resolved.Resolved.{Resolved}
use Rattle.c_tree.specs.Kinds.{World, Signature, agree, place_kind, is_variable, stores, answers, call_kind, answer_of, are_given, of_move, kind_at, kind}
use Rattle.c_tree.specs.Checked.{IsChecked, is_addressable, in_main, in_function}
use Rattle.alias_sets.specs.declared.flows.PointerVar.{PointerVar}
use Rattle.alias_sets.specs.declared.flows.PointerVar.TheVariants as var
use Rattle.alias_sets.specs.declared.flows.Source.{Source}
use Rattle.alias_sets.specs.declared.flows.Source.TheVariants as source'
use Rattle.alias_sets.specs.declared.flows.Flow.{Flow}
use Rattle.alias_sets.specs.Flows as text
use Rattle.alias_sets.specs.Flows.{local_of, variable, variable_source, source_at, source, goes, passed, called, perhaps_variable, stmt_flows, function_flows, flows}
use Rattle.alias_sets.specs.Points.{HasFlow, IsChain, MayHold, MayCome}
use Rattle.access_summary.specs.declared.effects.Named.{Named}
use Rattle.access_summary.specs.declared.effects.Named.TheVariants as named'
use Rattle.access_summary.specs.declared.effects.Effect.{Effect}
use Rattle.access_summary.specs.declared.effects.Effect.TheVariants as effect
use Rattle.access_summary.specs.Effects.{Seen, seen, seen_at, source_in, moved, stmt_effects}
use Rattle.access_summary.specs.declared.touch.Access.{Access}
use Rattle.access_summary.specs.Summaries.{bodies_from, bodies, body_of, ReachesAccess}
use Rattle.flow_graph.specs.declared.node.NodeWork.{NodeWork}
use Rattle.flow_graph.specs.declared.node.NodeWork.TheVariants as work
use Rattle.flow_graph.specs.Works.{Works, works, works_of_body}
use Rattle.flow_graph.specs.WorkRules.{work_keeps}
use Rattle.flow_graph.specs.NodeEffects.{work_effects}
use Rattle.flow_graph.specs.EffectCells.{EffectsDo}
use Rattle.flow_graph.proofs.WorkRuleLaws.{main_works_keep, function_works_keep}
use Rattle.flow_graph.proofs.AgreeText.{each, each_both, nothing_more, work_flows, flows_of_nodes, effects_of_nodes}
use Rattle.flow_graph.proofs.AgreeValues.{IsWorldOf, world_of_main, world_of_function}

-- ---- lists

-- x stands in the list
abbrev pub Has : {A : Type 0} → List A → A → Type 0
Has xs x = (k : ℕ) × (slice_get xs k ≡ Some x)

module _ {A : Type 0} where
  pub has_left : (xs ys : List A) (x : A) → Has xs x → Has (xs ++ ys) x
  has_left [] ys x h = absurd (none-some x h.1)
  has_left (y ∷ xs) ys x (zero, h) = (zero, h)
  has_left (y ∷ xs) ys x (suc k, h) = let q = has_left xs ys x (k, h) in (suc q.0, q.1)

  pub has_right : (xs ys : List A) (x : A) → Has ys x → Has (xs ++ ys) x
  has_right [] ys x h = h
  has_right (y ∷ xs) ys x h = let q = has_right xs ys x h in (suc q.0, q.1)

  -- what a node has stands among what all have
  pub has_each : (h : NodeWork → List A) (ws : Works) (j : ℕ) (w : NodeWork) (x : A) → slice_get ws j ≡ Some w → Has (h w) x → Has (each h ws) x
  has_each h [] j w x e i = absurd (none-some w e)
  has_each h (v ∷ ws) zero w x e i = has_left (h v) (each h ws) x (subst (λ (u : NodeWork). Has (h u) x) (sym (same_Some v w e)) i)
  has_each h (v ∷ ws) (suc j) w x e i = has_right (h v) (each h ws) x (has_each h ws j w x e i)

  -- an end has nothing
  pub each_of_body : (h : NodeWork → List A) → h work.End ≡ [] → (s : RStmt) → each h (works_of_body s) ≡ each h (works s)
  each_of_body h e s = each_both h (works s) (work.End ∷ []) ∙ ap (λ l. each h (works s) ++ (l ++ [])) e ∙ nothing_more None (each h (works s))

-- ---- where expressions come from

-- an object whose address the text takes has an address
abbrev pub Addressed : Resolved → Source → Type 0
Addressed p s = (o : ℕ) → s ≡ source'.Object o → is_addressable (slice_get p.objects o) ≡ true

nothing_object : {A : Type 0} (o : ℕ) → source'.Nothing ≡ source'.Object o → A
nothing_object o e = absurd cc

variable_object : {A : Type 0} (v : PointerVar) (o : ℕ) → source'.Variable v ≡ source'.Object o → A
variable_object v o e = absurd cc

same_object : (q o : ℕ) → source'.Object q ≡ source'.Object o → q ≡ o
same_object q o e = cc

module _ (p : Resolved) (f : Option ℕ) (w : World) (world : IsWorldOf p f w) where
  pub record Comes (k : Option Bool) (n : Seen) (s : Source) : Type 0 where
    pub same : source_in n.named ≡ s
    pub addressed : (b : Bool) → k ≡ Some b → Addressed p s

  from_nothing : (k : Option Bool) (n : Seen) → source_in n.named ≡ source'.Nothing → Comes k n source'.Nothing
  from_nothing k n e = record { same = e; addressed = λ b is o q. nothing_object o q }

  local_source : (g : Option ℕ) (i o : ℕ) → variable_source (local_of g i) ≡ source'.Object o → is_addressable (slice_get p.objects o) ≡ true
  local_source None i o e = nothing_object o e
  local_source (Some k) i o e = variable_object (var.Local k i) o e

  moved_same : (d : Direction) (x y : Named) → source_in (moved d x y) ≡ source_in x
  moved_same Forward (named'.Object o) (named'.Number k) = refl
  moved_same d x y = refl

  of_moved : (a b : Option Bool) (r : Bool) → of_move a b ≡ Some r → a ≡ Some true
  of_moved (Some true) b r h = refl
  of_moved (Some false) b r h = absurd (none-some r h)
  of_moved None b r h = absurd (none-some r h)

  address_there : (o : ℕ) (b : Bool) → (if w.has_address o then Some true else None) ≡ Some b → w.has_address o ≡ true
  address_there o b e = elim (cases_Bool (w.has_address o)) [
    | inl y ↦ y
    | inr z ↦ absurd (none-some b (sym (ap (λ (x : Bool). cond x (Some true) None) z) ∙ e))
  ]

  abbrev At : RExpr → Type 0
  At e = Comes (kind w e) (seen f e) (source f e)

  layer : (X : Type 0) (q : X → RExpr) → ((x : X) → At (q x)) → (e : RExpr-F X) → Comes (kind_at w (map-RExpr RExpr (Option Bool) (kind w) (map-RExpr X RExpr q e))) (seen_at f (map-RExpr RExpr Seen (seen f) (map-RExpr X RExpr q e))) (source_at f (map-RExpr RExpr Source (source f) (map-RExpr X RExpr q e)))
  layer X q hx (RExpr-F.Cell c) = record { same = refl; addressed = λ b is o e. variable_object (var.Cell c) o e }
  layer X q hx (RExpr-F.Local i) = record { same = refl; addressed = λ b is o e. local_source f i o e }
  layer X q hx (RExpr-F.Object k) = record { same = refl; addressed = λ b is o e. subst (λ j. is_addressable (slice_get p.objects j) ≡ true) (same_object k o e) (world.has_address k (address_there k b is)) }
  layer X q hx (RExpr-F.Move x y d) = record {
    same = moved_same d (seen f (q x)).named (seen f (q y)).named ∙ (hx x).same;
    addressed = λ b is. (hx x).addressed true (of_moved (kind w (q x)) (kind w (q y)) b is);
  }
  layer X q hx (RExpr-F.Num k) = from_nothing _ _ refl
  layer X q hx RExpr-F.Null = from_nothing _ _ refl
  layer X q hx (RExpr-F.Unary op x) = from_nothing _ _ refl
  layer X q hx (RExpr-F.Binary op x y) = from_nothing _ _ refl
  layer X q hx (RExpr-F.And x y) = from_nothing _ _ refl
  layer X q hx (RExpr-F.Or x y) = from_nothing _ _ refl
  layer X q hx (RExpr-F.Fetch x) = from_nothing _ _ refl

  pub comes : (e : RExpr) → At e
  comes = ind-RExpr At (λ x y is.
      let l = layer _ (λ e. e.0) (λ e. e.1) y in
      let k = subst (λ z. Comes (kind_at w (map-RExpr RExpr (Option Bool) (kind w) z)) (seen_at f (map-RExpr RExpr Seen (seen f) z)) (source_at f (map-RExpr RExpr Source (source f) z))) is l in
      let k1 = subst (λ z. Comes z (seen_at f (map-RExpr RExpr Seen (seen f) x)) (source_at f (map-RExpr RExpr Source (source f) x))) (sym (fold-roll-RExpr (Option Bool) (kind_at w) x)) k in
      let k2 = subst (λ z. Comes (kind w (roll-RExpr x)) z (source_at f (map-RExpr RExpr Source (source f) x))) (sym (fold-roll-RExpr Seen (seen_at f) x)) k1 in
      subst (λ z. Comes (kind w (roll-RExpr x)) (seen f (roll-RExpr x)) z) (sym (fold-roll-RExpr Source (source_at f) x)) k2)

-- ---- each flow is from what has an address

abbrev pub AreAddressed : Resolved → List Flow → Type 0
AreAddressed p [] = Unit {0}
AreAddressed p (x ∷ fs) = Addressed p x.from × AreAddressed p fs

pub all_addressed : (p : Resolved) (xs ys : List Flow) → AreAddressed p xs → AreAddressed p ys → AreAddressed p (xs ++ ys)
all_addressed p [] ys h k = k
all_addressed p (x ∷ xs) ys h k = (h.0, all_addressed p xs ys h.1 k)

addressed_at : (p : Resolved) (fs : List Flow) (k : ℕ) (x : Flow) → AreAddressed p fs → slice_get fs k ≡ Some x → Addressed p x.from
addressed_at p [] k x h e = absurd (none-some x e)
addressed_at p (y ∷ fs) zero x h e = subst (λ (z : Flow). Addressed p z.from) (same_Some y x e) h.0
addressed_at p (y ∷ fs) (suc k) x h e = addressed_at p fs k x h.1 e

pub agree_some : (a b : Option Bool) → agree a b ≡ true → (x : Bool) × (a ≡ Some x) × (b ≡ Some x)
agree_some (Some false) (Some false) h = (false, refl, refl)
agree_some (Some true) (Some true) h = (true, refl, refl)
agree_some (Some false) (Some true) h = absurd (false≢true h)
agree_some (Some true) (Some false) h = absurd (false≢true h)
agree_some (Some false) None h = absurd (false≢true h)
agree_some (Some true) None h = absurd (false≢true h)
agree_some None b h = absurd (false≢true h)

module _ (p : Resolved) (f : Option ℕ) (w : World) (world : IsWorldOf p f w) where
  expr_addressed : (e : RExpr) (b : Bool) → kind w e ≡ Some b → Addressed p (source f e)
  expr_addressed e b k = (comes p f w world e).addressed b k

  goes_addressed : (s : Source) (v : Option PointerVar) → Addressed p s → AreAddressed p (goes s v)
  goes_addressed s None h = tt
  goes_addressed s (Some v) h = (h, tt)

  given_addressed : (ps : List Bool) (es : List RExpr) (g i : ℕ) → are_given w ps es ≡ true → AreAddressed p (passed f g i es)
  given_addressed [] [] g i h = tt
  given_addressed [] (e ∷ es) g i h = absurd (false≢true h)
  given_addressed (b ∷ ps) [] g i h = tt
  given_addressed (b ∷ ps) (e ∷ es) g i h =
      let q = and_parts (agree (Some b) (kind w e)) (are_given w ps es) h in
      let a = agree_some (Some b) (kind w e) q.0 in
      (expr_addressed e a.0 a.2, given_addressed ps es g (i + 1) q.1)

  -- a call that keeps the rules has its arguments
  pub call_given : (o : Option Signature) (es : List RExpr) (b : Bool) → answer_of w o es ≡ Some b → (g : Signature) × (o ≡ Some g) × (are_given w g.parameters es ≡ true) × (g.gives_pointer ≡ b)
  call_given None es b h = absurd (none-some b h)
  call_given (Some g) es b h = elim (cases_Bool (are_given w g.parameters es)) [
    | inl y ↦ (g, refl, y, same_Some g.gives_pointer b (sym (ap (λ (x : Bool). cond x (Some g.gives_pointer) None) y) ∙ h))
    | inr z ↦ absurd (none-some b (sym (ap (λ (x : Bool). cond x (Some g.gives_pointer) None) z) ∙ h))
  ]

  called_addressed : (v : Option PointerVar) (g : ℕ) (es : List RExpr) (b : Bool) → call_kind w g es ≡ Some b → AreAddressed p (called f v g es)
  called_addressed v g es b h =
      let q = call_given (w.function g) es b h in
      all_addressed p (passed f g 0 es) (goes (source'.Variable (var.Answer g)) v) (given_addressed (q.0).parameters es g 0 q.2) (goes_addressed (source'.Variable (var.Answer g)) v (λ o e. variable_object (var.Answer g) o e))

  some_there : (o : Option Bool) → is_some o ≡ true → (b : Bool) × (o ≡ Some b)
  some_there None h = absurd (false≢true h)
  some_there (Some b) h = (b, refl)

  pub answers_there : (pl : Option RPlace) (v : Option Bool) → answers w pl v ≡ true → (b : Bool) × (v ≡ Some b)
  answers_there None v h = some_there v h
  answers_there (Some pl) v h = let q = agree_some (place_kind w pl) v (and_parts (is_variable w pl) (stores w pl v) h).1 in (q.0, q.2)

  work_addressed : (k : NodeWork) → work_keeps w k ≡ true → AreAddressed p (work_flows f k)
  work_addressed (work.Declare pl None) h = tt
  work_addressed (work.Declare pl (Some e)) h = let q = agree_some (place_kind w pl) (kind w e) (and_parts (is_variable w pl) (stores w pl (kind w e)) h).1 in goes_addressed (source f e) (variable f pl) (expr_addressed e q.0 q.2)
  work_addressed (work.Set pl e) h = let q = agree_some (place_kind w pl) (kind w e) h in goes_addressed (source f e) (variable f pl) (expr_addressed e q.0 q.2)
  work_addressed (work.Call pl g es) h = let q = answers_there pl (call_kind w g es) h in called_addressed (perhaps_variable f pl) g es q.0 q.1
  work_addressed (work.Return e) h = let q = agree_some (Some w.gives_pointer) (kind w e) h in goes_addressed (source f e) (text.answer_of f) (expr_addressed e q.0 q.2)
  work_addressed (work.ReturnCall g es) h = let q = agree_some (Some w.gives_pointer) (call_kind w g es) h in called_addressed (text.answer_of f) g es q.0 q.2
  work_addressed (work.Input pl) h = tt
  work_addressed work.ReturnInput h = tt
  work_addressed (work.Put e) h = tt
  work_addressed (work.Print ps es) h = tt
  work_addressed (work.Test e) h = tt
  work_addressed work.Checkpoint h = tt
  work_addressed (work.Exclude k) h = tt
  work_addressed work.End h = tt

  works_addressed : (ws : Works) → list_all (work_keeps w) ws ≡ true → AreAddressed p (each (work_flows f) ws)
  works_addressed [] h = tt
  works_addressed (k ∷ ws) h = let q = and_parts (work_keeps w k) (list_all (work_keeps w) ws) h in all_addressed p (work_flows f k) (each (work_flows f) ws) (work_addressed k q.0) (works_addressed ws q.1)

  body_addressed : (s : RStmt) → list_all (work_keeps w) (works_of_body s) ≡ true → AreAddressed p (stmt_flows f s)
  body_addressed s h = subst (AreAddressed p) (each_of_body (work_flows f) refl s ∙ sym (flows_of_nodes f s)) (works_addressed (works_of_body s) h)

module _ (p : Resolved) (h : IsChecked p) where
  functions_addressed : (i : ℕ) (fs : List RFunction) → ((k : ℕ) (g : RFunction) → slice_get fs k ≡ Some g → slice_get p.functions (i + k) ≡ Some g) → AreAddressed p (function_flows i fs)
  functions_addressed i [] at = tt
  functions_addressed i (g ∷ fs) at =
      let is : slice_get p.functions i ≡ Some g = subst (λ j. slice_get p.functions j ≡ Some g) (omega arith) (at 0 g refl) in
      all_addressed p (stmt_flows (Some i) g.body) (function_flows (i + 1) fs)
      (body_addressed p (Some i) (in_function p g) (world_of_function p i g is) g.body (function_works_keep p i g h is))
      (functions_addressed (i + 1) fs (λ k g' e. subst (λ j. slice_get p.functions j ≡ Some g') (omega arith) (at (suc k) g' e)))

  flows_addressed : AreAddressed p (flows p)
  flows_addressed = all_addressed p (stmt_flows None p.main.body) (function_flows 0 p.functions)
      (body_addressed p None (in_main p) (world_of_main p) p.main.body (main_works_keep p h))
      (functions_addressed 0 p.functions (λ k g e. subst (λ j. slice_get p.functions j ≡ Some g) (omega arith) e))

  chain_addressed : (v : PointerVar) (u : List PointerVar) (o : ℕ) → IsChain (flows p) v u o → is_addressable (slice_get p.objects o) ≡ true
  chain_addressed v [] o c = addressed_at p (flows p) c.0 (record { into = v; from = source'.Object o }) flows_addressed c.1 o refl
  chain_addressed v (x ∷ u) o c = chain_addressed x u o c.1

  -- what a pointer may name has an address
  pub come_addressed : (s : Source) (o : ℕ) → Addressed p s → MayCome p s o → is_addressable (slice_get p.objects o) ≡ true
  come_addressed source'.Nothing o a m = absurd m
  come_addressed (source'.Object q) o a m = subst (λ j. is_addressable (slice_get p.objects j) ≡ true) m (a q refl)
  come_addressed (source'.Variable v) o a m = chain_addressed v m.0 o m.1

-- ---- a flow carries what its source may give

pub carried : (p : Resolved) (v : PointerVar) (s : Source) (o : ℕ) → HasFlow (flows p) v s → MayCome p s o → MayHold p v o
carried p v source'.Nothing o fl m = absurd m
carried p v (source'.Object q) o fl m = ([], subst (λ j. HasFlow (flows p) v (source'.Object j)) m fl)
carried p v (source'.Variable u) o fl m = (u ∷ m.0, (fl, m.1))

-- ---- nodes stand in the text

-- a node of a function, or of `main`
abbrev pub IsNodeOf : Resolved → Option ℕ → ℕ → NodeWork → Type 0
IsNodeOf p None j k = slice_get (works_of_body p.main.body) j ≡ Some k
IsNodeOf p (Some f) j k = (g : RFunction) × (slice_get p.functions f ≡ Some g) × (slice_get (works_of_body g.body) j ≡ Some k)

functions_have : (fs : List RFunction) (i f : ℕ) (g : RFunction) (x : Flow) → slice_get fs f ≡ Some g → Has (stmt_flows (Some (i + f)) g.body) x → Has (function_flows i fs) x
functions_have [] i f g x e k = absurd (none-some g e)
functions_have (y ∷ fs) i zero g x e k =
    has_left (stmt_flows (Some i) y.body) (function_flows (i + 1) fs) x (subst (λ (z : RFunction). Has (stmt_flows (Some i) z.body) x) (sym (same_Some y g e)) (subst (λ j. Has (stmt_flows (Some j) g.body) x) (omega arith) k))
functions_have (y ∷ fs) i (suc f) g x e k = has_right (stmt_flows (Some i) y.body) (function_flows (i + 1) fs) x (functions_have fs (i + 1) f g x e (subst (λ j. Has (stmt_flows (Some j) g.body) x) (omega arith) k))

body_has : (f : Option ℕ) (s : RStmt) (j : ℕ) (k : NodeWork) (x : Flow) → slice_get (works_of_body s) j ≡ Some k → Has (work_flows f k) x → Has (stmt_flows f s) x
body_has f s j k x e i = subst (λ l. Has l x) (each_of_body (work_flows f) refl s ∙ sym (flows_of_nodes f s)) (has_each (work_flows f) (works_of_body s) j k x e i)

-- the flows of a node are among those of the text
pub node_flows : (p : Resolved) (f : Option ℕ) (j : ℕ) (k : NodeWork) (x : Flow) → IsNodeOf p f j k → Has (work_flows f k) x → Has (flows p) x
node_flows p None j k x n i = has_left (stmt_flows None p.main.body) (function_flows 0 p.functions) x (body_has None p.main.body j k x n i)
node_flows p (Some f) j k x n i = has_right (stmt_flows None p.main.body) (function_flows 0 p.functions) x (functions_have p.functions 0 f n.0 x n.1 (subst (λ q. Has (stmt_flows (Some q) (n.0).body) x) (omega arith) (body_has (Some f) (n.0).body j k x n.2 i)))

bodies_are : (fs : List RFunction) (i f : ℕ) (g : RFunction) → slice_get fs f ≡ Some g → slice_index_or (bodies_from i fs) f [] ≡ stmt_effects (Some (i + f)) g.body
bodies_are [] i f g e = absurd (none-some g e)
bodies_are (y ∷ fs) i zero g e = ap (λ (z : RFunction). stmt_effects (Some i) z.body) (same_Some y g e) ∙ ap (λ j. stmt_effects (Some j) g.body) (omega arith)
bodies_are (y ∷ fs) i (suc f) g e = bodies_are fs (i + 1) f g e ∙ ap (λ j. stmt_effects (Some j) g.body) (omega arith)

-- the effects of a node are among those of its function
pub node_effects : (p : Resolved) (f j : ℕ) (k : NodeWork) (x : Effect) → IsNodeOf p (Some f) j k → Has (work_effects (Some f) k) x → Has (body_of (bodies p) f) x
node_effects p f j k x n i =
    subst (λ l. Has l x) (each_of_body (work_effects (Some f)) refl (n.0).body ∙ sym (effects_of_nodes (Some f) (n.0).body) ∙ ap (λ j. stmt_effects (Some j) (n.0).body) (omega arith) ∙ sym (bodies_are p.functions 0 f n.0 n.1))
    (has_each (work_effects (Some f)) (works_of_body (n.0).body) j k x n.2 i)

-- what a node may do, its function may
pub function_does : (a : Access) (p : Resolved) (f j : ℕ) (k : NodeWork) (c : ℕ) → IsNodeOf p (Some f) j k → EffectsDo p a (work_effects (Some f) k) c → ReachesAccess p (bodies p) a f c
function_does a p f j k c n (inl t) = let q = node_effects p f j k t.1 n (t.0, t.2) in (f, [], refl, (q.0, t.1, q.1, t.3))
function_does a p f j k c n (inr t) = let q = node_effects p f j k (effect.Call t.0) n (t.1, t.2) in let r = t.3 in (r.0, t.0 ∷ r.1, ((q.0, q.1), r.2), r.3)
