-- The segments of a graph: where they stand, and their depths.
use Rattle.std.proofs.Common.{◌≡◌, ℕ, zero, suc, ◌+◌, ◌<◌, ◌≤◌, List, [], ◌∷◌, ◌++◌, length, Some, true, pos, refl, sym, ap, subst, ◌⊎◌, inl, inr, ⊎_elim, arith, length-append}
use Rattle.std.specs.Prelude.{◌≢◌, slice_get, slice_index, slice_index_or}
use Rattle.std.proofs.lemmas.Bool.{cases_lt}
use Rattle.std.proofs.lemmas.Option.{get_or_from_slice_get}
use Rattle.c_tree.specs.Kinds.{World}
use Rattle.access_summary.specs.Edges.{Edge}
use Rattle.flow_graph.specs.declared.node.NodeWork.{NodeWork}
use Rattle.flow_graph.specs.declared.node.NodeWork.TheVariants as work
use Rattle.flow_graph.specs.WorkRules.{work_keeps}
use Rattle.flow_graph.specs.Joined.{FitsWork}
use Rattle.machine_code.specs.declared.instr.Instr.{Instr}
use Rattle.machine_code.specs.declared.instr.Instr.TheVariants as instr
use Rattle.machine_code.specs.CodeView.{CodeView}
use Rattle.code_maker.specs.NodeCode.{segment, segments, places}
use Rattle.code_maker.specs.Depths.{work_depth}
use Rattle.code_maker.proofs.Segments.{segment_length, none_some, some_is}
use Rattle.code_maker.proofs.DepthList.{StandsFrom, front_stands, back_stands, Setting, Place, AreLevel, HasDepths, place_with, later}
use Rattle.code_maker.proofs.ValidExprs.{Serves}
use Rattle.code_maker.proofs.ValidNodes.{IsMarked, segment_fits, ticked_block}

-- ---- where segments stand

-- the works of a graph: those of its nodes, and its end
abbrev pub ended : List NodeWork → List NodeWork
ended ws = ws ++ work.End ∷ []

-- where the segment of the end begins, behind those of these nodes
abbrev pub end_place : (ℕ → ℕ) → ℕ → List Edge → List NodeWork → ℕ → ℕ
end_place start m (to ∷ tos) (w ∷ ws) p = end_place start (m + 1) tos ws (p + length (segment start m to w p))
end_place start m tos ws p = p

-- where the segment of the node begins that is n behind node m
abbrev pub place_of : ℕ → List Edge → List NodeWork → ℕ → ℕ → ℕ
place_of m tos ws p n = slice_index_or (places m tos (ended ws) p) n 0

pub record IsRow (code : List Instr) (start : ℕ → ℕ) (m : ℕ) (tos : List Edge) (ws : List NodeWork) (p : ℕ) : Type 0 where
  pub size : p + length (segments start m tos (ended ws) p) ≡ end_place start m tos ws p + 2
  pub above : (n : ℕ) → n < length ws + 1 → p ≤ place_of m tos ws p n
  pub below : (n : ℕ) → n < length ws + 1 → place_of m tos ws p n ≤ end_place start m tos ws p
  pub tick : (n : ℕ) → n < length ws + 1 → (place_of m tos ws p n ≡ end_place start m tos ws p) ⊎ (slice_get code (place_of m tos ws p n) ≡ Some instr.Tick)
  pub segment : (n : ℕ) (to : Edge) (w : NodeWork) → slice_get tos n ≡ Some to → slice_get ws n ≡ Some w → StandsFrom code (place_of m tos ws p n) (segment start (m + n) to w (place_of m tos ws p n))

-- none of them is an end
abbrev pub NoneEnds : List NodeWork → Type 0
NoneEnds [] = Unit {0}
NoneEnds (w ∷ ws) = (w ≢ work.End) × NoneEnds ws

module _ (code : List Instr) (start : ℕ → ℕ) where
  row_end : (m : ℕ) (to : Edge) (p : ℕ) → IsRow code start m (to ∷ []) [] p
  row_end m to p = record {
    size = refl;
    above = by_place;
    below = at_most;
    tick = λ n lt. inl (here n lt);
    segment = λ n t w e f. absurd (none_some f);
  }
    where
      here : (n : ℕ) → n < 0 + 1 → place_of m (to ∷ []) [] p n ≡ p
      here zero lt = refl
      here (suc n) lt = absurd (omega arith)

      by_place : (n : ℕ) → n < 0 + 1 → p ≤ place_of m (to ∷ []) [] p n
      by_place n lt = omega (arith, here n lt)

      at_most : (n : ℕ) → n < 0 + 1 → place_of m (to ∷ []) [] p n ≤ p
      at_most n lt = omega (arith, here n lt)

  module _ (m : ℕ) (to : Edge) (tos : List Edge) (w : NodeWork) (ws : List NodeWork) (p : ℕ) (other : w ≢ work.End) where
    abbrev next_place : ℕ
    next_place = p + length (segment start m to w p)

    place_later : (n : ℕ) → place_of m (to ∷ tos) (w ∷ ws) p (suc n) ≡ place_of (m + 1) tos ws next_place n
    place_later n = ap (λ l. place_of (m + 1) tos ws (p + l) n) (sym (segment_length start (λ n. 0) m to w p))

    row_more : StandsFrom code p (segment start m to w p) → IsRow code start (m + 1) tos ws next_place → next_place ≤ end_place start (m + 1) tos ws next_place → IsRow code start m (to ∷ tos) (w ∷ ws) p
    row_more at r le = record {
      size = omega (arith, r.size, length-append (segment start m to w p) (segments start (m + 1) tos (ended ws) next_place));
      above = above_all;
      below = below_all;
      tick = tick_all;
      segment = segment_all;
    }
      where
        above_all : (n : ℕ) → n < length (w ∷ ws) + 1 → p ≤ place_of m (to ∷ tos) (w ∷ ws) p n
        above_all zero lt = omega arith
        above_all (suc n) lt = omega (arith, place_later n, r.above n (omega arith))

        below_all : (n : ℕ) → n < length (w ∷ ws) + 1 → place_of m (to ∷ tos) (w ∷ ws) p n ≤ end_place start m (to ∷ tos) (w ∷ ws) p
        below_all zero lt = omega arith
        below_all (suc n) lt = omega (arith, place_later n, r.below n (omega arith))

        ticked : slice_get code p ≡ Some instr.Tick
        ticked = (subst (StandsFrom code p) (ticked_block start m to w p other) at).0

        tick_all : (n : ℕ) → n < length (w ∷ ws) + 1 → (place_of m (to ∷ tos) (w ∷ ws) p n ≡ end_place start m (to ∷ tos) (w ∷ ws) p) ⊎ (slice_get code (place_of m (to ∷ tos) (w ∷ ws) p n) ≡ Some instr.Tick)
        tick_all zero lt = inr ticked
        tick_all (suc n) lt = subst (λ q. (q ≡ end_place start m (to ∷ tos) (w ∷ ws) p) ⊎ (slice_get code q ≡ Some instr.Tick)) (sym (place_later n)) (r.tick n (omega arith))

        segment_all : (n : ℕ) (t : Edge) (v : NodeWork) → slice_get (to ∷ tos) n ≡ Some t → slice_get (w ∷ ws) n ≡ Some v → StandsFrom code (place_of m (to ∷ tos) (w ∷ ws) p n) (segment start (m + n) t v (place_of m (to ∷ tos) (w ∷ ws) p n))
        segment_all zero t v e f =
            let z : m ≡ m + 0 = omega arith in
            subst (λ k. StandsFrom code p (segment start k t v p)) z (subst (λ x. StandsFrom code p (segment start m t x p)) (some_is f) (subst (λ x. StandsFrom code p (segment start m x w p)) (some_is e) at))
        segment_all (suc n) t v e f =
            let z : m + 1 + n ≡ m + suc n = omega arith in
            subst (λ k. StandsFrom code (place_of m (to ∷ tos) (w ∷ ws) p (suc n)) (segment start k t v (place_of m (to ∷ tos) (w ∷ ws) p (suc n)))) z
            (subst (λ q. StandsFrom code q (segment start (m + 1 + n) t v q)) (sym (place_later n)) (r.segment n t v e f))

  pub end_above : (m : ℕ) (tos : List Edge) (ws : List NodeWork) (p : ℕ) → p ≤ end_place start m tos ws p
  end_above m [] ws p = omega arith
  end_above m (to ∷ tos) [] p = omega arith
  end_above m (to ∷ tos) (w ∷ ws) p = let h = end_above (m + 1) tos ws (p + length (segment start m to w p)) in omega arith

  pub row_is : (m : ℕ) (tos : List Edge) (ws : List NodeWork) (p : ℕ) → length tos ≡ length ws + 1 → NoneEnds ws → StandsFrom code p (segments start m tos (ended ws) p) → IsRow code start m tos ws p
  row_is m [] [] p e none at = absurd (omega arith)
  row_is m (to ∷ []) [] p e none at = row_end m to p
  row_is m (to ∷ t ∷ tos) [] p e none at = absurd (omega arith)
  row_is m [] (w ∷ ws) p e none at = absurd (omega arith)
  row_is m (to ∷ tos) (w ∷ ws) p e none at =
      let s = segment start m to w p in
      let q = p + length s in
      let rest = segments start (m + 1) tos (ended ws) q in
      row_more m to tos w ws p none.0 (front_stands code p s rest at) (row_is (m + 1) tos ws q (omega arith) none.1 (back_stands code p s rest at)) (end_above (m + 1) tos ws q)

-- ---- their depths

-- what is asked of node m, whose segment begins at place p
pub record IsNode (c : CodeView) (most : ℕ) (w : World) (size m p : ℕ) (to : Edge) (wk : NodeWork) : Type 0 where
  pub keeps : work_keeps w wk ≡ true
  pub few : work_depth wk ≤ c.stack
  pub joined : FitsWork size wk to
  pub marked : IsMarked c most m (p + 1) wk

pub record RowDepths (S : Setting) (m : ℕ) (tos : List Edge) (ws : List NodeWork) (p : ℕ) : Type 0 where
  pub depths : List ℕ
  pub same : length depths ≡ length (segments S.start m tos (ended ws) p)
  pub first : (D : List ℕ) → StandsFrom D p depths → slice_index D p ≡ 0
  pub level : (D : List ℕ) → StandsFrom D p depths → (n : ℕ) → n < length ws + 1 → slice_index D (place_of m tos ws p n) ≡ 0
  pub places : (D : List ℕ) → AreLevel S D → StandsFrom D p depths → (q : ℕ) → p ≤ q → q < p + length (segments S.start m tos (ended ws) p) → Place S D q

module _ (S : Setting) (w : World) (serves : Serves S.code S.cells S.own w) (room : 1 ≤ S.code.stack) where
  end_depths : (m : ℕ) (to : Edge) (p : ℕ) → StandsFrom S.code.instrs p (segments S.start m (to ∷ []) (ended []) p) → S.low ≤ p → p ≡ S.last → RowDepths S m (to ∷ []) [] p
  end_depths m to p at low is = record {
    depths = 0 ∷ 1 ∷ [];
    same = refl;
    first = λ D h. get_or_from_slice_get D p 0 0 h.0;
    level = λ D h n lt. level_at D h n lt;
    places = λ D level h q from_p to_p.
        let e0 = get_or_from_slice_get D p 0 0 h.0 in
        let e1 = get_or_from_slice_get D (p + 1) 1 0 h.1.0 in
        let num : Place S D p = place_with S.code S.cells S.most D p (instr.Num (pos 0)) 0 at.0 e0 (omega arith) (omega arith) tt tt tt (later S D p (p + 1) 1 low (omega arith) (omega arith) e1) (λ none. refl) in
        let ret : Place S D (p + 1) = place_with S.code S.cells S.most D (p + 1) instr.Ret 1 at.1.0 e1 (omega arith) room tt tt tt tt (λ none. absurd (none p (instr.Num (pos 0)) at.0 refl)) in
        ⊎_elim {C = Place S D q} (λ lt. subst (Place S D) (omega arith) num) (λ ge. subst (Place S D) (omega arith) ret) (cases_lt q (p + 1));
  }
    where
      level_at : (D : List ℕ) → StandsFrom D p (0 ∷ 1 ∷ []) → (n : ℕ) → n < 0 + 1 → slice_index D (place_of m (to ∷ []) [] p n) ≡ 0
      level_at D h zero lt = get_or_from_slice_get D p 0 0 h.0
      level_at D h (suc n) lt = absurd (omega arith)

  module _ (m : ℕ) (to : Edge) (tos : List Edge) (wk : NodeWork) (ws : List NodeWork) (p : ℕ) where
    abbrev here : List Instr
    here = segment S.start m to wk p

    abbrev rest : List Instr
    rest = segments S.start (m + 1) tos (ended ws) (p + length here)

    more_depths : HasDepths S p here 0 0 → RowDepths S (m + 1) tos ws (p + length here) → RowDepths S m (to ∷ tos) (wk ∷ ws) p
    more_depths A R = record {
      depths = A.depths ++ R.depths;
      same = omega (arith, length-append A.depths R.depths, A.same, R.same, length-append here rest);
      first = λ D h. A.first D (front_stands D p A.depths R.depths h) (R.first D (behind D h));
      level = λ D h n lt. level_at D h n lt;
      places = λ D level h q from_p to_p.
          let y : slice_index D (p + length here) ≡ 0 = R.first D (behind D h) in
          ⊎_elim {C = Place S D q}
          (λ below. A.places D level (front_stands D p A.depths R.depths h) y (λ none. refl) q from_p below)
          (λ above. R.places D level (behind D h) q above (omega (arith, length-append here rest)))
          (cases_lt q (p + length here));
    }
      where
        behind : (D : List ℕ) → StandsFrom D p (A.depths ++ R.depths) → StandsFrom D (p + length here) R.depths
        behind D h = subst (λ n. StandsFrom D (p + n) R.depths) A.same (back_stands D p A.depths R.depths h)

        level_at : (D : List ℕ) → StandsFrom D p (A.depths ++ R.depths) → (n : ℕ) → n < length (wk ∷ ws) + 1 → slice_index D (place_of m (to ∷ tos) (wk ∷ ws) p n) ≡ 0
        level_at D h zero lt = A.first D (front_stands D p A.depths R.depths h) (R.first D (behind D h))
        level_at D h (suc n) lt = subst (λ q. slice_index D q ≡ 0) (ap (λ l. place_of (m + 1) tos ws (p + l) n) (segment_length S.start (λ n. 0) m to wk p)) (R.level D (behind D h) n (omega arith))

  -- each node, by how far behind node m it stands
  abbrev AreNodes : ℕ → List Edge → List NodeWork → ℕ → Type 0
  AreNodes m tos ws p = (n : ℕ) (to : Edge) (wk : NodeWork) → slice_get tos n ≡ Some to → slice_get ws n ≡ Some wk → IsNode S.code S.most w S.size (m + n) (place_of m tos ws p n) to wk

  pub row_depths : (m : ℕ) (tos : List Edge) (ws : List NodeWork) (p : ℕ) → length tos ≡ length ws + 1 → NoneEnds ws → AreNodes m tos ws p → StandsFrom S.code.instrs p (segments S.start m tos (ended ws) p) → S.low ≤ p → end_place S.start m tos ws p ≡ S.last → RowDepths S m tos ws p
  row_depths m [] [] p e none are at low is = absurd (omega arith)
  row_depths m (to ∷ []) [] p e none are at low is = end_depths m to p at low is
  row_depths m (to ∷ t ∷ tos) [] p e none are at low is = absurd (omega arith)
  row_depths m [] (wk ∷ ws) p e none are at low is = absurd (omega arith)
  row_depths m (to ∷ tos) (wk ∷ ws) p e none are at low is =
      let s = segment S.start m to wk p in
      let q = p + length s in
      let others = segments S.start (m + 1) tos (ended ws) q in
      let z : m + 0 ≡ m = omega arith in
      let node : IsNode S.code S.most w S.size m p to wk = subst (λ k. IsNode S.code S.most w S.size k p to wk) z (are 0 to wk refl refl) in
      let A = segment_fits S w serves m to wk p node.keeps node.few node.joined node.marked none.0 (front_stands S.code.instrs p s others at) low (omega (arith, end_above S.code.instrs S.start (m + 1) tos ws q)) in
      more_depths m to tos wk ws p A (row_depths (m + 1) tos ws q (omega arith) none.1 (later_nodes m to tos wk ws p are) (back_stands S.code.instrs p s others at) (omega arith) is)
    where
      later_nodes : (m : ℕ) (to : Edge) (tos : List Edge) (wk : NodeWork) (ws : List NodeWork) (p : ℕ) → AreNodes m (to ∷ tos) (wk ∷ ws) p → AreNodes (m + 1) tos ws (p + length (segment S.start m to wk p))
      later_nodes m to tos wk ws p are n t v e f =
          let z : m + suc n ≡ m + 1 + n = omega arith in
          subst (λ k. IsNode S.code S.most w S.size k (place_of (m + 1) tos ws (p + length (segment S.start m to wk p)) n) t v) z
          (subst (λ l. IsNode S.code S.most w S.size (m + suc n) (place_of (m + 1) tos ws (p + l) n) t v) (sym (segment_length S.start (λ n. 0) m to wk p)) (are (suc n) t v e f))
