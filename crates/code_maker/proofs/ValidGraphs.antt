-- The code of a graph: its depths.
use Rattle.std.proofs.Common.{◌≡◌, ℕ, ◌+◌, ◌<◌, ◌≤◌, List, [], ◌∷◌, ◌++◌, length, Some, Bool, true, false, refl, sym, ap, subst, ◌⊎◌, ⊎_elim, arith, length-append}
use Rattle.std.specs.Prelude.{◌==◌, slice_get, slice_index, if◌then◌else◌}
use Rattle.std.proofs.lemmas.Bool.{cases_lt}
use Rattle.std.proofs.lemmas.Option.{slice_get_within}
use Rattle.c_tree.specs.Kinds.{World}
use Rattle.access_summary.specs.Edges.{Edge}
use Rattle.flow_graph.specs.declared.node.NodeWork.{NodeWork}
use Rattle.flow_graph.specs.Run.{Graph}
use Rattle.machine_code.specs.declared.instr.Instr.{Instr}
use Rattle.machine_code.specs.declared.instr.Instr.TheVariants as instr
use Rattle.machine_code.specs.CodeView.{CodeView, home}
use Rattle.code_maker.specs.NodeCode.{segments, entry_jump, start_in, graph_block}
use Rattle.code_maker.proofs.Segments.{entry_length}
use Rattle.code_maker.proofs.DepthList.{StandsFrom, front_stands, back_stands, IsPlace, Setting, AreLevel, HasDepths, Fits, none_fits}
use Rattle.code_maker.proofs.ValidExprs.{Serves}
use Rattle.code_maker.proofs.ValidNodes.{jump_fits}
use Rattle.code_maker.proofs.ValidSegments.{ended, end_place, place_of, IsRow, NoneEnds, IsNode, RowDepths, row_is, end_above, row_depths}

-- instructions at place p, with their depths: the first has no operands before it
pub record CodeDepths (c : CodeView) (cells most p : ℕ) (is : List Instr) : Type 0 where
  pub depths : List ℕ
  pub same : length depths ≡ length is
  pub first : (D : List ℕ) → StandsFrom D p depths → slice_index D p ≡ 0
  pub places : (D : List ℕ) → StandsFrom D p depths → (q : ℕ) → p ≤ q → q < p + length is → IsPlace c cells most D q

pub stands_within : {A : Type 0} → (xs : List A) (p : ℕ) (ys : List A) → 0 < length ys → StandsFrom xs p ys → p + length ys ≤ length xs
stands_within xs p [] lt h = absurd (omega arith)
stands_within xs p (y ∷ []) lt h = let k = slice_get_within xs p y h.0 in omega arith
stands_within xs p (y ∷ z ∷ ys) lt h = let k = stands_within xs (p + 1) (z ∷ ys) (omega arith) h.1 in omega arith

-- the graph whose nodes do this, with its end behind them
abbrev pub graph_with : ℕ → ℕ → List Edge → List NodeWork → Graph
graph_with locals entry edges ws = record { locals = locals; entry = entry; edges = edges; works = ended ws }

module _ (c : CodeView) (cells most own p : ℕ) (w : World) (serves : Serves c cells own w) (locals entry : ℕ) (edges : List Edge) (ws : List NodeWork) where
  abbrev g : Graph
  g = graph_with locals entry edges ws

  abbrev start : ℕ → ℕ
  start = start_in g p

  abbrev first_place : ℕ
  first_place = p + length (entry_jump start entry)

  abbrev last_place : ℕ
  last_place = end_place start 0 edges ws first_place

  pub start_is : (n : ℕ) → place_of 0 edges ws first_place n ≡ start n
  start_is n = ap (λ l. place_of 0 edges ws (p + l) n) (entry_length start (λ n. 0) entry)

  module _ (same : length edges ≡ length ws + 1) (none : NoneEnds ws) (at : StandsFrom c.instrs p (graph_block g p)) where
    pub row : IsRow c.instrs start 0 edges ws first_place
    row = row_is c.instrs start 0 edges ws first_place same none (back_stands c.instrs p (entry_jump start entry) (segments start 0 edges (ended ws) first_place) at)

    graph_size : p + length (graph_block g p) ≡ last_place + 2
    graph_size = omega (arith, row.size, length-append (entry_jump start entry) (segments start 0 edges (ended ws) first_place))

    module _ (at_home : (q : ℕ) → p ≤ q → q < p + length (graph_block g p) → home c.functions q ≡ own) where
      setting : Setting
      setting = record {
        code = c;
        cells = cells;
        most = most;
        own = own;
        low = p;
        last = last_place;
        size = length (ended ws);
        start = start;
        within = let h = end_above c.instrs start 0 edges ws first_place in let k = stands_within c.instrs p (graph_block g p) (omega (arith, graph_size)) at in omega (arith, graph_size);
        at_home = λ q low le. at_home q low (omega (arith, graph_size));
        starts = λ n lt. let k = length-append ws (ended []) in let h = row.above n (omega arith) in omega (arith, start_is n);
        ends = λ n lt. let k = length-append ws (ended []) in let h = row.below n (omega arith) in omega (arith, start_is n);
        ticks = λ n lt. let k = length-append ws (ended []) in subst (λ q. (q ≡ last_place) ⊎ (slice_get c.instrs q ≡ Some instr.Tick)) (start_is n) (row.tick n (omega arith));
      }

      module _ (room : 1 ≤ c.stack) (there : entry < length (ended ws)) (are : (n : ℕ) (to : Edge) (wk : NodeWork) → slice_get edges n ≡ Some to → slice_get ws n ≡ Some wk → IsNode c most w (length (ended ws)) n (start n) to wk) where
        entry_fits : Fits setting p (entry_jump start entry) 0 0
        unfolding setting
        entry_fits = by_test (entry == 0)
          where
            by_test : (b : Bool) → Fits setting p (if b then [] else instr.Jump (start entry) ∷ []) 0 0
            by_test true = none_fits setting p 0
            by_test false = jump_fits setting p entry there

        rows : RowDepths setting 0 edges ws first_place
        unfolding setting
        rows =
            let nodes : (n : ℕ) (to : Edge) (wk : NodeWork) → slice_get edges n ≡ Some to → slice_get ws n ≡ Some wk → IsNode c most w (length (ended ws)) (0 + n) (place_of 0 edges ws first_place n) to wk = λ n to wk e f.
            let z : n ≡ 0 + n = omega arith in
            subst (λ k. IsNode c most w (length (ended ws)) k (place_of 0 edges ws first_place n) to wk) z (subst (λ q. IsNode c most w (length (ended ws)) n q to wk) (sym (start_is n)) (are n to wk e f)) in
            row_depths setting w serves room 0 edges ws first_place same none nodes (back_stands c.instrs p (entry_jump start entry) (segments start 0 edges (ended ws) first_place) at) (omega arith) refl

        pub graph_depths : CodeDepths c cells most p (graph_block g p)
        unfolding setting
        graph_depths =
            let j = entry_jump start entry in
            let s = segments start 0 edges (ended ws) first_place in
            let k = length-append ws (ended []) in
            let A : HasDepths setting p j 0 0 = entry_fits (front_stands c.instrs p j s at) (omega arith) (end_above c.instrs start 0 edges ws first_place) in
            let R = rows in
            let behind : (D : List ℕ) → StandsFrom D p (A.depths ++ R.depths) → StandsFrom D first_place R.depths = λ D h. subst (λ n. StandsFrom D (p + n) R.depths) A.same (back_stands D p A.depths R.depths h) in
            let level : (D : List ℕ) → StandsFrom D p (A.depths ++ R.depths) → AreLevel setting D = λ D h n lt. subst (λ q. slice_index D q ≡ 0) (start_is n) (R.level D (behind D h) n (omega arith)) in
            record {
              depths = A.depths ++ R.depths;
              same = omega (arith, length-append A.depths R.depths, A.same, R.same, length-append j s);
              first = λ D h. A.first D (front_stands D p A.depths R.depths h) (R.first D (behind D h));
              places = λ D h q from_p to_p. ⊎_elim {C = IsPlace c cells most D q}
                  (λ below. A.places D (level D h) (front_stands D p A.depths R.depths h) (R.first D (behind D h)) (λ none. refl) q from_p below)
                  (λ above. R.places D (level D h) (behind D h) q above (omega (arith, length-append j s)))
                  (cases_lt q first_place);
            }
