-- What is forgettable stays so until it is written.
use Rattle.std.proofs.Common.{◌≡◌, ℕ, zero, suc, ◌<◌, ◌⊎◌, true, false, List, [], ◌∷◌, ◌++◌, length, Some, None, inl, inr, refl, sym, ap, ◌∙◌, subst, arith, length-append}
use Rattle.std.specs.Prelude.{slice_get}
use Rattle.std.specs.List.{Contains}
use Rattle.std.proofs.lemmas.Bool.{cases_Bool, false≢true}
use Rattle.std.proofs.lemmas.Option.{none-some}
use Rattle.ckpt_base.specs.Event.{Event}
use Rattle.c_tree.specs.declared.resolved.Resolved.{Resolved}
use Rattle.c_tree.specs.Layout.{cell_count}
use Rattle.c_tree.specs.Checked.{IsChecked}
use Rattle.c_tree.specs.Meaning.{calls_within}
use Rattle.c_tree.specs.State.{State}
use Rattle.path_laws.specs.Graph as effects
use Rattle.path_laws.specs.Graph.{has_edge, mark_is_checkpoint, is_checkpoint, kills}
use Rattle.path_laws.specs.Forgettable.{IsForgettable}
use Rattle.access_summary.specs.Edges.{laid, to_end}
use Rattle.flow_graph.specs.declared.node.NodeWork.{NodeWork}
use Rattle.flow_graph.specs.declared.node.NodeWork.TheVariants as work
use Rattle.flow_graph.specs.Works.{works}
use Rattle.flow_graph.specs.NodeEffects.{NodeKills}
use Rattle.flow_graph.specs.MainGraph.{mark, main_of, IsMainGraph}
use Rattle.flow_graph.specs.Run.{spot, graphs_of}
use Rattle.flow_graph.specs.Wanted.{IsWanted}
use Rattle.flow_graph.specs.Agreement.{Place, Counts, wrote, AgreeAt, ComesTo}
use Rattle.flow_graph.proofs.Same.{good}
use Rattle.flow_graph.proofs.AgreeStores.{nothing_there}
use Rattle.flow_graph.proofs.AgreeRuns.{comes_alike, wanted_after}
use Rattle.flow_graph.proofs.WalkEvents.{marked_within}

tail_same : {A : Type 0} (x : A) (ys zs : List A) → ◌≡◌ {A = List A} (x ∷ ys) (x ∷ zs) → ys ≡ zs
tail_same x ys zs e = cc

pub behind_same : {A : Type 0} (xs ys zs : List A) → xs ++ ys ≡ xs ++ zs → ys ≡ zs
behind_same [] ys zs e = e
behind_same (x ∷ xs) ys zs e = behind_same xs ys zs (tail_same x (xs ++ ys) (xs ++ zs) e)

there_is : {A : Type 0} (xs : List A) (i : ℕ) → i < length xs → (x : A) × (slice_get xs i ≡ Some x)
there_is [] i lt = absurd (omega arith)
there_is (x ∷ xs) zero lt = (x, refl)
there_is (x ∷ xs) (suc i) lt = there_is xs i (omega arith)

-- each node of `main` has its edges
edges_long : (p : Resolved) → length (main_of p).edges ≡ length (main_of p).works
edges_long p =
    let body = p.main.body in
    let z = good (graphs_of p) (calls_within p.functions 1000) body in
    let t = to_end (laid body).size in
    let a = length-append ((laid body).edges 0 t) ((None, None) ∷ []) in
    let b = length-append (works body) (work.End ∷ []) in
    let c = z.sized 0 t in
    let d = z.worked in
    omega (arith, a, b, c, d)

-- only a CHECKPOINT_HERE is marked as one
marked_checkpoint : (k : NodeWork) → mark_is_checkpoint (mark k) ≡ true → k ≡ work.Checkpoint
marked_checkpoint work.Checkpoint e = refl
marked_checkpoint (work.Exclude k) e = absurd (false≢true e)
marked_checkpoint (work.Declare a b) e = absurd (false≢true e)
marked_checkpoint (work.Set a b) e = absurd (false≢true e)
marked_checkpoint (work.Call a b c) e = absurd (false≢true e)
marked_checkpoint (work.Input a) e = absurd (false≢true e)
marked_checkpoint (work.Return a) e = absurd (false≢true e)
marked_checkpoint (work.ReturnCall a b) e = absurd (false≢true e)
marked_checkpoint work.ReturnInput e = absurd (false≢true e)
marked_checkpoint (work.Put a) e = absurd (false≢true e)
marked_checkpoint (work.Print a b) e = absurd (false≢true e)
marked_checkpoint (work.Test a) e = absurd (false≢true e)
marked_checkpoint work.End e = absurd (false≢true e)

module _ (p : Resolved) (h : IsChecked p) (g : effects.Graph) (mg : IsMainGraph p g) where
  -- a CHECKPOINT_HERE kills nothing
  checkpoint_kills : (j c : ℕ) → c < cell_count p → is_checkpoint g j ≡ true → kills g j c ≡ false
  checkpoint_kills j c lt e =
      let within = marked_within g j e in
      let w = there_is (main_of p).works j (omega (arith, mg.count)) in
      let to = there_is (main_of p).edges j (omega (arith, mg.count, edges_long p)) in
      let node = mg.nodes j to.0 w.0 to.1 w.1 in
      let is = marked_checkpoint w.0 (ap mark_is_checkpoint (sym node.marked) ∙ e) in
      elim (cases_Bool (kills g j c)) [
        | inl y ↦ (let k = subst (λ (k : NodeWork). NodeKills p None k c) is ((node.kills c lt).0 y) in absurd (none-some k.0 k.1))
        | inr z ↦ z
      ]

  -- a cell that is forgettable at a node of `main` is so at a later CHECKPOINT_HERE, if it was not written on the way
  pub stays : (l : Place) (m n j : ℕ) (s u : State) (k i a : ℕ) (es : List Event) (c : ℕ) → c < cell_count p → has_edge g m n ≡ true → AgreeAt p g l (spot None n []) s s → ComesTo (graphs_of p) k (spot None n []) s i (spot None j []) u a → is_checkpoint g j ≡ true → u.events ≡ s.events ++ es → (Contains (wrote es) c → ⊥) → IsForgettable g c m → IsForgettable g c j
  stays l m n j s u k i a es c lt edge at comes marked events unwritten f = λ q w walk reads.
      let z = comes_alike p h g mg k l (spot None n []) s s i (spot None j []) u a at comes in
      let same = behind_same s.events z.more es (sym z.events ∙ events) in
      let wanted : IsWanted g c z.place.node = subst (λ x. IsWanted g c x) (sym z.agree.outside.0) (q ∷ w, walk, (checkpoint_kills j c lt marked, reads)) in
      before z.more (z.counts c lt (inl wanted)) (λ y. unwritten (subst (λ x. Contains (wrote x) c) same y))
    where
      before : {A : Type 0} (es : List Event) → Counts g l c ⊎ Contains (wrote es) c → (Contains (wrote es) c → ⊥) → A
      before es (inr y) never = absurd (never y)
      before es (inl (inl y)) never = absurd (wanted_after g m n c edge (subst (λ x. IsWanted g c x) at.outside.0 y) f)
      before es (inl (inr y)) never = nothing_there c (subst (λ (x : List ℕ). Contains x c) at.outside.1 y)
