-- The graphs of `main` of one program do the same.
use Rattle.std.proofs.Common.{◌≡◌, ◌<◌, ◌≤◌, ℕ, List, [], length, Option, Some, None, Result, Ok, Err, IfOk, sym, ap, ◌∙◌, subst, inl, inr, arith}
use Rattle.std.specs.Prelude.{slice_get}
use Rattle.std.specs.Option.{option_map_or}
use Rattle.std.proofs.lemmas.Option.{slice_get_cases, slice_get_past, slice_get_within}
use Rattle.std.proofs.lemmas.Bool.Decides.{same_from_decides}
use Rattle.path_laws.specs.declared.graph.Mark.TheVariants.{Plain}
use Rattle.path_laws.specs.declared.graph.Node.{Node}
use Rattle.path_laws.specs.Graph.{Graph, next_of, mark_of, may_read, may_write, kills, mark_is_exclude, exclude_count}
use Rattle.cell_sets.specs.Sets.{has}
use Rattle.c_tree.specs.declared.resolved.Resolved.{Resolved}
use Rattle.c_tree.specs.Layout.{cell_count}
use Rattle.access_summary.specs.Edges.{Edge}
use Rattle.flow_graph.specs.declared.node.NodeWork.{NodeWork}
use Rattle.flow_graph.specs.MainGraph.{mark, main_of, IsNode, IsMainGraph}
use Rattle.flow_graph.proofs.Marks.{numbers_count}
use Rattle.flow_graph.proofs.WorkExcludes.{body_numbers}
use Rattle.c_tree.specs.Excludes.{excludes}
use Rattle.c_tree.specs.Checked.{IsChecked}
use Rattle.flow_graph.proofs.Joins.{graph_is_joined}
use Rattle.exclusion_equations.specs.Excluded.{Sets, AreExact}
use Rattle.exclusion_reason.specs.Reasons.{IsReason}
use Rattle.exclusion_reason.specs.declared.reason.Reason.{Reason}
use Rattle.ckpt_program.specs.Report.{directives_text, IsReport}
use Rattle.ckpt_program.specs.Why.{HasBoth, IsReasonIn}
use Rattle.ckpt_program.proofs.AlikeGraphs.{AreJoinedAlike, TreatAlike, counted_alike, exact_alike}
use Rattle.ckpt_program.proofs.AlikeReasons.{reason_alike}

-- what two graphs have at a node
record SameNode (p : Resolved) (g h : Graph) (n : ℕ) : Type 0 where
  next : next_of g n ≡ next_of h n
  marked : mark_of g n ≡ mark_of h n
  reads : (c : ℕ) → c < cell_count p → may_read g n c ≡ may_read h n c
  writes : (c : ℕ) → c < cell_count p → may_write g n c ≡ may_write h n c
  kills' : (c : ℕ) → c < cell_count p → kills g n c ≡ kills h n c

within : (p : Resolved) (g h : Graph) (n : ℕ) (to : Edge) (w : NodeWork) → IsNode p g n to w → IsNode p h n to w → SameNode p g h n
within p g h n to w a b = record {
  next = a.next ∙ sym b.next;
  marked = a.marked ∙ sym b.marked;
  reads = λ c below. same_from_decides (may_read g n c) (may_read h n c) (a.reads c below) (b.reads c below);
  writes = λ c below. same_from_decides (may_write g n c) (may_write h n c) (a.writes c below) (b.writes c below);
  kills' = λ c below. same_from_decides (kills g n c) (kills h n c) (a.kills c below) (b.kills c below);
}

past : (p : Resolved) (g h : Graph) (n : ℕ) → slice_get g.nodes n ≡ None → slice_get h.nodes n ≡ None → SameNode p g h n
past p g h n a b =
    let same : slice_get g.nodes n ≡ slice_get h.nodes n = a ∙ sym b in
    record {
      next = ap (λ (d : Option Node). option_map_or (λ d. d.next) d (None, None)) same;
      marked = ap (λ (d : Option Node). option_map_or (λ d. d.mark) d Plain) same;
      reads = λ c below. ap (λ (d : Option Node). has (option_map_or (λ d. d.reads) d []) c) same;
      writes = λ c below. ap (λ (d : Option Node). has (option_map_or (λ d. d.writes) d []) c) same;
      kills' = λ c below. ap (λ (d : Option Node). has (option_map_or (λ d. d.kills) d []) c) same;
    }

-- an edge for each node of `main`
edge_there : (p : Resolved) (n : ℕ) → n < length (main_of p).works → (to : Edge) × (slice_get (main_of p).edges n ≡ Some to)
edge_there p n below = elim (slice_get_cases (main_of p).edges n).1 [
  | inl found ↦ (found.0, found.2)
  | inr none ↦ absurd (omega (arith, none.0, below, (graph_is_joined 0 p.main.body).same))
]

same_node : (p : Resolved) (g h : Graph) → IsMainGraph p g → IsMainGraph p h → (n : ℕ) → SameNode p g h n
same_node p g h a b n = elim (slice_get_cases (main_of p).works n).1 [
  | inl found ↦
      let edge = edge_there p n found.1 in
      within p g h n edge.0 found.0 (a.nodes n edge.0 found.0 edge.1 found.2) (b.nodes n edge.0 found.0 edge.1 found.2)
  | inr none ↦ past p g h n (slice_get_past g.nodes n (omega (arith, none.0, a.count))) (slice_get_past h.nodes n (omega (arith, none.0, b.count)))
]

joined_alike : (p : Resolved) (g h : Graph) → IsMainGraph p g → IsMainGraph p h → AreJoinedAlike g h
joined_alike p g h a b = record { count = a.count ∙ sym b.count; next = λ n. (same_node p g h a b n).next; marked = λ n. (same_node p g h a b n).marked }

treat_alike : (p : Resolved) (g h : Graph) (c : ℕ) → IsMainGraph p g → IsMainGraph p h → c < cell_count p → TreatAlike g h c
treat_alike p g h c a b small = record { reads = λ n. (same_node p g h a b n).reads c small; writes = λ n. (same_node p g h a b n).writes c small; kills = λ n. (same_node p g h a b n).kills' c small }

-- sets that are exact for one graph of `main` are so for each
pub exact_for_each : (p : Resolved) (g h : Graph) (s : Sets) → IsMainGraph p g → IsMainGraph p h → AreExact g s → AreExact h s
exact_for_each p g h s a b e =
    exact_alike g h s (a.cells ∙ sym b.cells) (joined_alike p g h a b)
    (λ c below. treat_alike p g h c a b (subst (λ (k : ℕ). c < k) a.cells below))
    e

-- the EXCLUDE_HERE of the graph of `main` are those of its text
pub excludes_of_main : (p : Resolved) (g : Graph) → IsMainGraph p g → exclude_count g ≡ length (excludes p.main.body)
excludes_of_main p g a =
    let ws = (main_of p).works in
    counted_alike Node NodeWork (λ d. mark_is_exclude d.mark) (λ w. mark_is_exclude (mark w)) g.nodes ws a.count (λ n d w x y.
    let edge = edge_there p n (slice_get_within ws n w y) in
    ap mark_is_exclude (ap (λ (d : Option Node). option_map_or (λ d. d.mark) d Plain) (sym x) ∙ (a.nodes n edge.0 w edge.1 y).marked))
    ∙ numbers_count NodeWork mark ws ∙ ap length (body_numbers p.main.body)

pub few_excludes : (p : Resolved) (g : Graph) → IsChecked p → IsMainGraph p g → exclude_count g < 65536
few_excludes p g checked a = omega (arith, excludes_of_main p g a, checked.few_excludes)

-- the report by sets that are exact for one graph of `main`
pub reported : (p : Resolved) (g : Graph) (s : Sets) (text : List ℕ) (count : ℕ) → IsMainGraph p g → AreExact g s → count ≡ exclude_count g → text ≡ directives_text p s count → IsReport p text
reported p g s text count a e is told = record {
  graph = g;
  of_main = a;
  sets = s;
  exact = λ h b. exact_for_each p g h s a b e;
  told = told ∙ ap (directives_text p s) (is ∙ sym e.dead_len);
}

pub report_made : {E : Type 0} (p : Resolved) (g : Graph) (s : Sets) (count : ℕ) (r : Result (List ℕ) E) → IsMainGraph p g → AreExact g s → count ≡ exclude_count g → IfOk r (λ t. t ≡ directives_text p s count) → IfOk r (λ t. IsReport p t)
report_made p g s count (Ok text) a e is told = reported p g s text count a e is told
report_made p g s count (Err f) a e is told = tt

-- ---- reasons

-- an EXCLUDE_HERE and a cell that the program has, its graph has too
pub exclude_there : (p : Resolved) (g : Graph) (k c : ℕ) → IsMainGraph p g → HasBoth p k c → k ≤ exclude_count g
exclude_there p g k c a both = let low = both.exclude in omega (arith, low, excludes_of_main p g a)

pub reason_made : {E : Type 0} (p : Resolved) (g : Graph) (k c : ℕ) (r : Result Reason E) → IsMainGraph p g → HasBoth p k c → IfOk r (λ x. IsReason g k c x) → IfOk r (λ x. IsReasonIn p k c x)
reason_made p g k c (Ok x) a both is = record { graph = g; of_main = a; is = λ h b. reason_alike g h k c x (joined_alike p g h a b) (treat_alike p g h c a b both.cell) is }
reason_made p g k c (Err f) a both is = tt
