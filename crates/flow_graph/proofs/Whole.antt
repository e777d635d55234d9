-- The graphs of a program mean what its trees mean.
use Rattle.std.proofs.Common.{◌≡◌, ℕ, zero, suc, ◌+◌, ◌*◌, ◌<◌, ◌≤◌, List, [], ◌∷◌, length, map, Option, Some, None, Bool, true, false, refl, sym, ap, ◌∙◌, subst, arith, le-ltb, lt-ltb}
use Rattle.std.proofs.lemmas.Option.{slice_get-map}
use Rattle.std.specs.Prelude.{option_map, slice_get, if◌then◌else◌, nat_lt}
use Rattle.ckpt_base.specs.declared.ending.Ending.TheVariants.{Ended}
use Rattle.ckpt_base.specs.Word.{signed}
use Rattle.ckpt_base.specs.Run.{Run}
use Rattle.c_tree.specs.declared.resolved.RStmt.{RStmt}
use Rattle.c_tree.specs.declared.resolved.RFunction.{RFunction}
use Rattle.c_tree.specs.declared.resolved.Resolved.{Resolved}
use Rattle.c_tree.specs.State.{State, with_locals, entry_locals, first_state}
use Rattle.c_tree.specs.Meaning.{Then, Calls, piece, stop, body_ways, called, calls_within, meaning}
use Rattle.access_summary.specs.Edges.{laid, to_end}
use Rattle.flow_graph.specs.declared.node.NodeWork.TheVariants as work
use Rattle.flow_graph.specs.Works.{works}
use Rattle.flow_graph.specs.Run.{Graph, Graphs, Frame, after, run, graph_of, graph_of_function, graph_at, edge_in, work_in, enters, Step, graph_run, graphs_of, at_entry, enough_nodes}
use Rattle.flow_graph.proofs.Follow.{Stands, Has, has_parts, Follows, Answers, CallsFollow, does_one}
use Rattle.flow_graph.proofs.Same.{good}

all_there : {A : Type 0} → (get : ℕ → Option A) (m : ℕ) (xs : List A) → ((j : ℕ) → get (m + j) ≡ slice_get xs j) → Stands get m xs
all_there get m [] h = tt
all_there get m (x ∷ xs) h = (
  subst (λ k. get k ≡ Some x) (omega arith) (h zero),
  all_there get (m + 1) xs (λ j. subst (λ k. get k ≡ slice_get xs j) (omega arith) (h (suc j))),
)

-- a graph that stands in the list has its nodes from 0 on
graph_there : (gs : Graphs) (f : Option ℕ) (g : Graph) → graph_at gs f ≡ Some g → Has gs f 0 g.edges g.works
graph_there gs f g is = record {
  edges = all_there (edge_in (graph_at gs f)) 0 g.edges (λ j. subst (λ k. edge_in (graph_at gs f) k ≡ slice_get g.edges j) (omega arith) (ap (λ (o : Option Graph). edge_in o j) is));
  works = all_there (work_in (graph_at gs f)) 0 g.works (λ j. subst (λ k. work_in (graph_at gs f) k ≡ slice_get g.works j) (omega arith) (ap (λ (o : Option Graph). work_in o j) is));
}

end_follows : (gs : Graphs) (f : Option ℕ) (frs : List Frame) (n m : ℕ) (back : ℕ → Then) → edge_in (graph_at gs f) m ≡ Some (None, None) → work_in (graph_at gs f) m ≡ Some work.End → Answers gs f frs n back → Follows gs f frs n (back 0) m
end_follows gs f frs n m back is w h s i zero le lt = absurd (omega arith)
end_follows gs f frs n m back is w h s i (suc b) le lt = h 0 s i b le (omega arith) ∙ does_one gs f frs m (None, None) work.End is w b s i

-- a body
pub body_follows : (gs : Graphs) (calls : Calls) (f : Option ℕ) (locals : ℕ) (body : RStmt) → graph_at gs f ≡ Some (graph_of locals body) → (frs : List Frame) (n : ℕ) (back : ℕ → Then) → CallsFollow gs frs calls → Answers gs f frs n back
    → Follows gs f frs n ((piece calls body).does 0 (body_ways back)) (graph_of locals body).entry
body_follows gs calls f locals body is frs n back cf h =
    let l = laid body in
    let t = to_end l.size in
    let g = good gs calls body in
    let z = g.sized 0 t in
    let p = has_parts gs f (l.edges 0 t) ((None, None) ∷ []) (works body) (work.End ∷ []) 0 l.size (omega (arith, z)) (omega (arith, z, g.worked)) (graph_there gs f (graph_of locals body) is) in
    let e = end_follows gs f frs n l.size back p.1.edges.0 p.1.works.0 h in
    g.follows f frs n 0 0 t (body_ways back) cf refl p.0 (record { next = e; out_of_loop = e; again = e; back = h })

module _ (gs : Graphs) (fs : List RFunction) (are : gs.functions ≡ map graph_of_function fs) where
  enters_alike : (calls : Calls) (h : ℕ) (as' : List ℕ) (n : ℕ) (back : ℕ → Then) (frs : List Frame) (o : Option RFunction) → slice_get gs.functions h ≡ option_map graph_of_function o → CallsFollow gs frs calls
      → Answers gs (Some h) frs n back → (s : State) (i b : ℕ) → i ≤ n → 2 * i + length frs < b → called calls o as' back s i ≡ after (run gs b) (enters (slice_get gs.functions h) h frs as' s i)
  enters_alike calls h as' n back frs None is cf hb s i b le lt = ap (λ (o : Option Graph). after (run gs b) (enters o h frs as' s i)) (sym is)
  enters_alike calls h as' n back frs (Some f) is cf hb s i b le lt =
      body_follows gs calls (Some h) (length f.locals) f.body is frs n back cf hb (with_locals (entry_locals (length f.locals) as') s) i b le lt
      ∙ ap (λ (o : Option Graph). after (run gs b) (enters o h frs as' s i)) (sym is)

  made_or_not : (c : Bool) (x y : Step) (b : ℕ) (r : Run) → c ≡ true → r ≡ after (run gs b) x → r ≡ after (run gs b) (if c then x else y)
  made_or_not c x y b r e h = rw e h

  not_made : (c : Bool) (x y : Step) (b : ℕ) (r : Run) → c ≡ false → r ≡ after (run gs b) y → r ≡ after (run gs b) (if c then x else y)
  not_made c x y b r e h = rw e h

  pub calls_follow : (a : ℕ) (frs : List Frame) → a + length frs ≡ 1000 → CallsFollow gs frs (calls_within fs a)
  calls_follow zero frs e h as' n back fr hb s i b le lt = not_made (nat_lt (length frs) 1000) _ _ b _ (le-ltb _ _ (omega arith)) refl
  calls_follow (suc a) frs e h as' n back fr hb s i b le lt =
      made_or_not (nat_lt (length frs) 1000) _ _ b _ (lt-ltb _ _ (omega arith))
      (enters_alike (calls_within fs a) h as' n back (fr ∷ frs) (slice_get fs h) (ap (λ gs. slice_get gs h) are ∙ slice_get-map graph_of_function fs h) (calls_follow a (fr ∷ frs) (omega arith))
      (λ v t j d l q. hb v t j d l (omega arith)) s i b le (omega arith))

-- every input, every number of ticks
pub same_meaning : (p : Resolved) (input : List ℕ) (n : ℕ) → meaning p input n ≡ graph_run (graphs_of p) (at_entry (graphs_of p)) (first_state p input) n
same_meaning p input n =
    let gs = graphs_of p in
    body_follows gs (calls_within p.functions 1000) None 0 p.main.body refl [] n (λ a. stop (Ended (signed a))) (calls_follow gs p.functions refl 1000 [] refl) (λ v t i b le lt. refl) (first_state p input) n (enough_nodes (at_entry gs) n) (omega arith) (omega arith)
