-- The graph of `main` is whole.
use Rattle.std.proofs.Common.{◌≡◌, ℕ, zero, suc, ◌<◌, ◌≤◌, Bool, true, false, ◌||◌, List, [], ◌∷◌, length, Option, Some, None, refl, sym, ap, ◌∙◌, subst, arith, inl, inr}
use Rattle.std.proofs.lemmas.Bool.{false≢true, eqb-true}
use Rattle.std.proofs.lemmas.Option.{slice_get_cases, slice_get_past, slice_get_within}
use Rattle.std.specs.Prelude.{slice_get}
use Rattle.std.specs.Option.{option_map_or}
use Rattle.c_tree.specs.declared.resolved.Resolved.{Resolved}
use Rattle.c_tree.specs.Excludes.{excludes, counts_from}
use Rattle.c_tree.specs.Checked.{IsChecked}
use Rattle.path_laws.specs.declared.graph.Mark.TheVariants.{Plain}
use Rattle.path_laws.specs.declared.graph.Node.{Node}
use Rattle.path_laws.specs.Edge.{is_at}
use Rattle.path_laws.specs.Graph.{Graph, has_edge, exclude_count, IsWhole}
use Rattle.access_summary.specs.Edges.{Edge}
use Rattle.flow_graph.specs.declared.node.NodeWork.{NodeWork}
use Rattle.flow_graph.specs.declared.node.NodeWork.TheVariants as work
use Rattle.flow_graph.specs.Joined.{FitsWork}
use Rattle.flow_graph.specs.MainGraph.{mark, main_of, IsNode, IsMainGraph}
use Rattle.flow_graph.proofs.Joins.{graph_is_joined}
use Rattle.flow_graph.proofs.Marks.{number_before, numbers, numbers_count, numbers_within, numbers_there, numbers_once}
use Rattle.flow_graph.proofs.WorkExcludes.{work_numbers, body_numbers}

-- ---- edges

-- whether one of the edges goes to m
abbrev Leads : Edge → ℕ → Type 0
Leads to m = (is_at to.0 m || is_at to.1 m) ≡ true

either_below : (size a b m : ℕ) → a < size → b < size → Leads (Some a, Some b) m → m < size
either_below size a b m l k h = by (is_at (Some a) m) refl h
  where
    by : (c : Bool) → is_at (Some a) m ≡ c → (c || is_at (Some b) m) ≡ true → m < size
    by true e t = let at = eqb-true a m e in omega arith
    by false e t = let at = eqb-true b m t in omega arith

one_below : (size a m : ℕ) → a < size → Leads (Some a, None) m → m < size
one_below size a m l h = by (is_at (Some a) m) refl h
  where
    by : (c : Bool) → is_at (Some a) m ≡ c → (c || false) ≡ true → m < size
    by true e t = let at = eqb-true a m e in omega arith
    by false e t = absurd (false≢true t)

-- edges that fit lead to nodes
single_below : (size : ℕ) (to : Edge) (m : ℕ) → ((a : ℕ) × (to ≡ (Some a, None)) × (a < size)) → Leads to m → m < size
single_below size to m h l = one_below size h.0 m h.2 (subst (λ e. Leads e m) h.1 l)

fits_below : (size : ℕ) (w : NodeWork) (to : Edge) (m : ℕ) → FitsWork size w to → Leads to m → m < size
fits_below size (work.Test e) to m h l = either_below size h.0 h.1 m h.3 h.4 (subst (λ e. Leads e m) h.2 l)
fits_below size work.End to m h l = absurd (false≢true (subst (λ e. Leads e m) h l))
fits_below size (work.Declare p e) to m h l = single_below size to m h l
fits_below size (work.Set p e) to m h l = single_below size to m h l
fits_below size (work.Call p f es) to m h l = single_below size to m h l
fits_below size (work.Input p) to m h l = single_below size to m h l
fits_below size (work.Return e) to m h l = single_below size to m h l
fits_below size (work.ReturnCall f es) to m h l = single_below size to m h l
fits_below size work.ReturnInput to m h l = single_below size to m h l
fits_below size (work.Put e) to m h l = single_below size to m h l
fits_below size (work.Print ps es) to m h l = single_below size to m h l
fits_below size work.Checkpoint to m h l = single_below size to m h l
fits_below size (work.Exclude k) to m h l = single_below size to m h l

no_edge : (g : Graph) (n m : ℕ) → length g.nodes ≤ n → has_edge g n m ≡ true → ⊥
no_edge g n m le h = false≢true (subst (λ (o : Option Node). Leads (option_map_or (λ d. d.next) o (None, None)) m) (slice_get_past g.nodes n le) h)

-- a number below the length has an element
there : {A : Type 0} → (xs : List A) (n : ℕ) → n < length xs → (x : A) × (slice_get xs n ≡ Some x)
there [] n lt = absurd (omega arith)
there (x ∷ xs) zero lt = (x, refl)
there (x ∷ xs) (suc n) lt = there xs n (omega arith)

module _ (p : Resolved) (g : Graph) (made : IsMainGraph p g) where
  -- each node of `main` is a node of the graph
  at_node : (n : ℕ) (w : NodeWork) → slice_get (main_of p).works n ≡ Some w → n < length (main_of p).works → (to : Edge) × FitsWork (length (main_of p).works) w to × IsNode p g n to w
  at_node n w e lt =
      let joined = graph_is_joined 0 p.main.body in
      let to = there (main_of p).edges n (omega (arith, joined.same)) in
      (to.0, joined.each n w to.0 e to.1, made.nodes n to.0 w to.1 e)

  edges_below : (n m : ℕ) → has_edge g n m ≡ true → m < length g.nodes
  edges_below n m h = elim (slice_get_cases (main_of p).works n).1 [
    | inl in' ↦
        let d = at_node n in'.0 in'.2 in'.1 in
        let below = fits_below (length (main_of p).works) in'.0 d.0 m d.1 (subst (λ e. Leads e m) d.2.next h) in
        omega (arith, below, made.count)
    | inr past ↦ absurd (no_edge g n m (omega (arith, past.0, made.count)) h)
  ]

  -- ---- marks

  same_numbers : (ds : List Node) (ws : List NodeWork) → length ds ≡ length ws → ((n : ℕ) (d : Node) (w : NodeWork) → slice_get ds n ≡ Some d → slice_get ws n ≡ Some w → d.mark ≡ mark w) → numbers Node (λ d. d.mark) ds ≡ work_numbers ws
  same_numbers [] [] e h = refl
  same_numbers [] (w ∷ ws) e h = absurd (omega arith)
  same_numbers (d ∷ ds) [] e h = absurd (omega arith)
  same_numbers (d ∷ ds) (w ∷ ws) e h =
      ap (λ m. number_before m (numbers Node (λ d. d.mark) ds)) (h zero d w refl refl) ∙ ap (number_before (mark w)) (same_numbers ds ws (omega arith) (λ n d w a b. h (suc n) d w a b))

  numbers_are : numbers Node (λ d. d.mark) g.nodes ≡ excludes p.main.body
  numbers_are =
      same_numbers g.nodes (main_of p).works made.count (λ n d w a b.
      let o = at_node n w b (slice_get_within (main_of p).works n w b) in
      ap (λ (o : Option Node). option_map_or (λ d. d.mark) o Plain) (sym a) ∙ o.2.marked)
      ∙ body_numbers p.main.body

  -- as many as the text has
  pub excludes_are : exclude_count g ≡ length (excludes p.main.body)
  excludes_are = numbers_count Node (λ d. d.mark) g.nodes ∙ ap (λ (ns : List ℕ). length ns) numbers_are

  pub main_is_whole : IsChecked p → IsWhole g
  main_is_whole checked =
      let counts = ap (counts_from 1) numbers_are ∙ checked.exclude_numbers in
      let count : exclude_count g ≡ length (numbers Node (λ d. d.mark) g.nodes) = numbers_count Node (λ d. d.mark) g.nodes in
      record {
        edges = edges_below;
        entry = omega (arith, made.entry, made.count, (graph_is_joined 0 p.main.body).entry);
        numbers = λ k n d. let w = numbers_within Node (λ d. d.mark) g.nodes 1 k n counts d in (w.0, omega (arith, w.1, count));
        nodes = λ k a b. numbers_there Node (λ d. d.mark) g.nodes 1 k counts a (omega (arith, b, count));
        one_node = λ k n m d e. numbers_once Node (λ d. d.mark) g.nodes 1 k n m counts d e;
      }
