-- Chains of flows are paths of the graph.
use Rattle.std.proofs.Common.{◌≡◌, ℕ, ◌↔◌, true, false, List, [], ◌∷◌, length, Some, slice_get, get_or, Contains, Result, IfOk, Vec, Global, refl, sym, ap, ◌∙◌, arith}
use Rattle.std.proofs.lemmas.Option.{same_Some, slice_get_within}
use Rattle.std.proofs.lemmas.Result.{IfOk-weaker}
use Rattle.std.proofs.lemmas.List.{get_or_read}
use Rattle.cell_sets.specs.Sets.{Cells, has}
use Rattle.path_laws.specs.Reaching.{joins, in_row, IsPath, Until, Reaches, IsSolution}
use Rattle.alias_sets.specs.declared.flows.PointerVar.{PointerVar}
use Rattle.alias_sets.specs.declared.flows.Source.{Source}
use Rattle.alias_sets.specs.declared.flows.Source.TheVariants as source'
use Rattle.alias_sets.specs.declared.flows.Flow.{Flow}
use Rattle.alias_sets.specs.Numbers.{IsNumber, AreApart, AllNumbered}
use Rattle.alias_sets.specs.Nodes.{AreEdgesBelow, AreGoalsBelow}
use Rattle.alias_sets.specs.Points.{HasFlow, IsChain, PointsView, Holds}

-- two variables of one number are one
one_variable : (vs : List PointerVar) (u v : PointerVar) (n : ℕ) → IsNumber vs u n → IsNumber vs v n → u ≡ v
one_variable vs u v n a b = same_Some u v (sym a ∙ b)

has_flow : (fs : List Flow) (k : ℕ) (f : Flow) (v : PointerVar) (s : Source) → slice_get fs k ≡ Some f → f.into ≡ v → f.from ≡ s → HasFlow fs v s
has_flow fs k f v s h into from = (k, h ∙ (λ i. Some (record { into = into i; from = from i })))

module _ (vs : List PointerVar) (fs : List Flow) (edges : List (ℕ × ℕ)) (goals stops : List Cells) (e : AreEdgesBelow vs fs (length fs) edges) (g : AreGoalsBelow vs fs (length fs) goals) where
  -- a path to a goal is a chain
  chain_of_path : (o : ℕ) (v : PointerVar) (n : ℕ) (w : List ℕ) → IsNumber vs v n → IsPath (joins edges) n w → Until (λ k. in_row goals k o) (λ k. in_row stops k o) n w → (c : List PointerVar) × IsChain fs v c o
  chain_of_path o v n [] at p u =
      let f = g.only n o u in
      ([], has_flow fs f.0 f.1 v (source'.Object o) f.2 (one_variable vs f.1.into v n f.3.1 at) f.3.0)
  chain_of_path o v n (m ∷ w) at p u =
      let f = e.only n m p.0 in
      let rest = chain_of_path o f.3.0 m w f.3.3 p.1 u.1 in
      (f.3.0 ∷ rest.0, (has_flow fs f.0 f.1 v (source'.Variable f.3.0) f.2 (one_variable vs f.1.into v n f.3.2 at) f.3.1, rest.1))

  -- a chain is a path to a goal
  path_of_chain : ((k o : ℕ) → in_row stops k o ≡ false) → AllNumbered vs fs → (o : ℕ) (v : PointerVar) (n : ℕ) (c : List PointerVar) → IsNumber vs v n → IsChain fs v c o → Reaches (joins edges) (λ k. in_row goals k o) (λ k. in_row stops k o) n
  path_of_chain free all o v n [] at h = ([], (tt, g.added h.0 (record { into = v; from = source'.Object o }) (slice_get_within fs h.0 _ h.1) h.1 n o (refl, at)))
  path_of_chain free all o v n (u ∷ c) at h =
      let m = (all h.0.0 (record { into = v; from = source'.Variable u }) h.0.1).1 in
      let rest = path_of_chain free all o u m.0 c m.1 h.1 in
      let edge = e.added h.0.0 (record { into = v; from = source'.Variable u }) (slice_get_within fs h.0.0 _ h.0.1) h.0.1 n m.0 (u, refl, at, m.1) in
      (m.0 ∷ rest.0, ((edge, rest.1.0), (free n o, rest.1.1)))

  -- a variable that a chain leads to has a number
  chain_numbered : AllNumbered vs fs → (o : ℕ) (v : PointerVar) (c : List PointerVar) → IsChain fs v c o → (n : ℕ) × IsNumber vs v n
  chain_numbered all o v [] h = (all h.0 (record { into = v; from = source'.Object o }) h.1).0
  chain_numbered all o v (u ∷ c) h = (all h.0.0 (record { into = v; from = source'.Variable u }) h.0.1).0

  -- the solution has exactly the chains
  pub solved : (rows : List Cells) → ((k o : ℕ) → in_row stops k o ≡ false) → AllNumbered vs fs → length goals ≡ length vs → IsSolution (joins edges) goals stops rows → (v : PointerVar) (o : ℕ) →
      ((n : ℕ) × (slice_get vs n ≡ Some v) × (in_row rows n o ≡ true)) ↔ ((c : List PointerVar) × IsChain fs v c o)
  solved rows free all len s v o = (
    (λ h. let r = s.sound h.0 o h.2 in chain_of_path o v h.0 r.0 h.1 r.1.0 r.1.1),
    (λ h. let n = chain_numbered all o v h.0 h.1 in let within = slice_get_within vs n.0 v n.1 in (n.0, n.1, s.complete n.0 o (omega arith) (path_of_chain free all o v n.0 h.0 n.1 h.1))),
  )

-- the numbers of a variable's row are the objects that it may hold
pub row_holds : (s : PointsView) (v : PointerVar) (n : ℕ) (row : Cells) (o : ℕ) → AreApart s.variables → length s.rows ≡ length s.variables → IsNumber s.variables v n → row ≡ get_or s.rows n row → (has row o ≡ true) ↔ Holds s v o
row_holds s v n row o apart len at is =
    let within = slice_get_within s.variables n v at in
    let same : row ≡ get_or s.rows n [] = get_or_read s.rows n row (omega arith) is [] in (
      (λ h. (n, at, ap (λ r. has r o) (sym same) ∙ h)),
      (λ h. ap (λ r. has r o) same ∙ ap (λ k. in_row s.rows k o) (apart v n h.0 at h.1) ∙ h.2),
    )

pub objects_held : {E : Type 0} (s : PointsView) (v : PointerVar) (n : ℕ) (row : Cells) (r : Result (Vec ℕ Global) E) → AreApart s.variables → length s.rows ≡ length s.variables → IsNumber s.variables v n → row ≡ get_or s.rows n row →
    IfOk r (λ objects. (o : ℕ) → Contains objects.items o ↔ (has row o ≡ true)) → IfOk r (λ objects. (o : ℕ) → Contains objects.items o ↔ Holds s v o)
objects_held s v n row r apart len at is h =
    IfOk-weaker r _ _ (λ objects each o. let a = each o in let b = row_holds s v n row o apart len at is in ((λ x. b.0 (a.0 x)), (λ x. a.1 (b.1 x)))) h
