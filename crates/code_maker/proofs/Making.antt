-- The code of graphs, as it is made.
use Rattle.std.proofs.Common.{◌≡◌, ℕ, zero, suc, ◌+◌, ◌<◌, List, [], ◌∷◌, ◌++◌, length, map, drop, take, append_assoc, length-append, Option, Some, None, refl, sym, ap, ◌∙◌, subst, arith}
use Rattle.std.specs.Prelude.{slice_get, Result, OnOk, max}
use Rattle.std.specs.Option.{option_map}
use Rattle.std.proofs.lemmas.Option.{slice_get-map}
use Rattle.std.proofs.lemmas.Result.{on_ok_weaker}
use Rattle.std.proofs.Math.Seq.{take-append_seam}
use Rattle.machine_code.specs.CodeView.{Function, Checkpoint}
use Rattle.c_tree.specs.declared.resolved.RFunction.{RFunction}
use Rattle.c_tree.specs.declared.resolved.Resolved.{Resolved}
use Rattle.access_summary.specs.Edges.{Edge}
use Rattle.flow_graph.specs.declared.node.NodeWork.{NodeWork}
use Rattle.machine_code.specs.declared.instr.Instr.{Instr}
use Rattle.flow_graph.specs.Run.{Graph, Graphs, graph_of_function, graphs_of}
use Rattle.flow_graph.proofs.Joins.{graph_is_joined}
use Rattle.code_maker.specs.Depths.{work_depth, works_depth, deepest}
use Rattle.code_maker.specs.NodeCode.{segment, segments, places, graph_block, starts, listed}
use Rattle.code_maker.specs.ProgramCode.{found, graph_for, HaveBoth, graph_with, graphs_block, functions_from, checkpoint_at, checkpoints_from}
use Rattle.code_maker.proofs.Lengths.{segment_length}

pub drop_next : {A : Type 0} → (xs : List A) (m : ℕ) (x : A) → slice_get xs m ≡ Some x → drop m xs ≡ x ∷ drop (m + 1) xs
drop_next [] m x h = absurd cc
drop_next (y ∷ ys) zero x h = cc
drop_next (y ∷ ys) (suc m) x h = drop_next ys m x h ∙ ap (λ n. x ∷ drop n (y ∷ ys)) (let e : suc (m + 1) ≡ suc m + 1 = omega arith in e)

-- the segment of the next node is made
pub segments_kept : (start : ℕ → ℕ) (es : List Edge) (ws : List NodeWork) (m : ℕ) (to : Edge) (w : NodeWork) (code new whole : List Instr) → slice_get es m ≡ Some to → slice_get ws m ≡ Some w
    → code ++ segments start m (drop m es) (drop m ws) (length code) ≡ whole → new ≡ code ++ segment start m to w (length code) → new ++ segments start (m + 1) (drop (m + 1) es) (drop (m + 1) ws) (length new) ≡ whole
segments_kept start es ws m to w code new whole h k i e =
    let s = segment start m to w (length code) in
    let d = drop_next es m to h in let d' = drop_next ws m w k in
    let l : length new ≡ length code + length s = ap length e ∙ length-append code s in
    let a = append_assoc code s (segments start (m + 1) (drop (m + 1) es) (drop (m + 1) ws) (length code + length s)) in
    cc

-- and its place is known
pub places_kept : (start : ℕ → ℕ) (es : List Edge) (ws : List NodeWork) (m : ℕ) (to : Edge) (w : NodeWork) (ps ps' whole : List ℕ) (p : ℕ) (code new : List Instr) → slice_get es m ≡ Some to → slice_get ws m ≡ Some w
    → ps ++ places m (drop m es) (drop m ws) (length code) ≡ whole → p ≡ length code → ps' ≡ ps ++ p ∷ [] → new ≡ code ++ segment start m to w (length code)
    → ps' ++ places (m + 1) (drop (m + 1) es) (drop (m + 1) ws) (length new) ≡ whole
places_kept start es ws m to w ps ps' whole p code new h k i o q e =
    let s = segment (λ n. 0) m to w (length code) in
    let d = drop_next es m to h in let d' = drop_next ws m w k in
    let l : length new ≡ length code + length s = ap length e ∙ length-append code (segment start m to w (length code)) ∙ ap (λ n. length code + n) (segment_length start (λ n. 0) m to w (length code) (length code)) in
    let a = append_assoc ps (length code ∷ []) (places (m + 1) (drop (m + 1) es) (drop (m + 1) ws) (length code + length s)) in
    cc

-- the second time the code is made it jumps to where the segments begin
pub graph_made : {T E : Type 0} (r : Result T E) (g : Graph) (old first back new more : List Instr) (n : ℕ) (ps qs : List ℕ) → n ≡ length old → first ≡ old ++ more → back ≡ take n first → qs ≡ ps → ps ≡ starts g (length old)
    → OnOk r (new ≡ back ++ graph_with (listed qs) g (length back)) → OnOk r (new ≡ old ++ graph_block g (length old))
graph_made r g old first back new more n ps qs e f b q p = on_ok_weaker r (λ h.
    let t = take-append_seam old more in
    let i : back ≡ old = cc in
    let l : qs ≡ starts g (length old) = q ∙ p in
    h ∙ ap (λ xs. xs ++ graph_with (listed qs) g (length xs)) i ∙ ap (λ rs. old ++ graph_with (listed rs) g (length old)) l)

-- ---- the table of checkpoints

pub table_kept : (ws : List NodeWork) (ps : List ℕ) (m : ℕ) (w : NodeWork) (p : ℕ) (ks ks' whole : List Checkpoint) → slice_get ws m ≡ Some w → slice_get ps m ≡ Some p → ks ++ checkpoints_from m (drop m ws) (drop m ps) ≡ whole
    → ks' ≡ ks ++ checkpoint_at m p w → ks' ++ checkpoints_from (m + 1) (drop (m + 1) ws) (drop (m + 1) ps) ≡ whole
table_kept ws ps m w p ks ks' whole h k i e =
    let d = drop_next ws m w h in let d' = drop_next ps m p k in
    let a = append_assoc ks (checkpoint_at m p w) (checkpoints_from (m + 1) (drop (m + 1) ws) (drop (m + 1) ps)) in
    cc

-- ---- depths

pub depth_kept : (ws : List NodeWork) (m : ℕ) (w : NodeWork) (d d' whole : ℕ) → slice_get ws m ≡ Some w → max d (works_depth (drop m ws)) ≡ whole → d' ≡ max (work_depth w) d → max d' (works_depth (drop (m + 1) ws)) ≡ whole
depth_kept ws m w d d' whole h i e =
    let l = ap works_depth (drop_next ws m w h) in
    omega (arith, l)

pub deepest_kept : (gs : List Graph) (m : ℕ) (g : Graph) (d d' whole : ℕ) → slice_get gs m ≡ Some g → max d (deepest (drop m gs)) ≡ whole → d' ≡ max (works_depth g.works) d → max d' (deepest (drop (m + 1) gs)) ≡ whole
deepest_kept gs m g d d' whole h i e =
    let l = ap deepest (drop_next gs m g h) in
    omega (arith, l)

-- ---- functions

found_at : (gs : List Graph) (m : ℕ) → m < length gs → slice_get gs m ≡ Some (found (slice_get gs m))
found_at [] m h = absurd (omega arith)
found_at (g ∷ gs) zero h = refl
found_at (g ∷ gs) (suc m) h = found_at gs m (omega arith)

pub graph_found : (gs : Graphs) (m : ℕ) → m < length gs.functions → slice_get gs.functions m ≡ Some (graph_for gs (Some m))
graph_found gs m h = found_at gs.functions m h

graph_is : (gs : Graphs) (fs : List RFunction) (m : ℕ) (f : RFunction) → gs.functions ≡ map graph_of_function fs → slice_get fs m ≡ Some f → graph_for gs (Some m) ≡ graph_of_function f
graph_is gs fs m f e h = ap (λ hs. found (slice_get hs m)) e ∙ ap found (slice_get-map graph_of_function fs m) ∙ ap (λ o. found (option_map graph_of_function o)) h

module _ (gs : Graphs) (fs : List RFunction) (m : ℕ) (f : RFunction) (e : gs.functions ≡ map graph_of_function fs) (h : slice_get fs m ≡ Some f) (code new : List Instr) (k : new ≡ code ++ graph_block (graph_for gs (Some m)) (length code)) where
  made_so : new ≡ code ++ graph_block (graph_of_function f) (length code)
  made_so = k ∙ ap (λ g. code ++ graph_block g (length code)) (graph_is gs fs m f e h)

  longer : length new ≡ length code + length (graph_block (graph_of_function f) (length code))
  longer = ap length made_so ∙ length-append code (graph_block (graph_of_function f) (length code))

  -- the code of the next function is made
  pub function_code_kept : (whole : List Instr) → code ++ graphs_block (map graph_of_function (drop m fs)) (length code) ≡ whole → new ++ graphs_block (map graph_of_function (drop (m + 1) fs)) (length new) ≡ whole
  function_code_kept whole i =
      let b = graph_block (graph_of_function f) (length code) in
      let d = ap (λ xs. code ++ graphs_block (map graph_of_function xs) (length code)) (drop_next fs m f h) in
      let n = ap (λ l. (code ++ b) ++ graphs_block (map graph_of_function (drop (m + 1) fs)) l) longer in
      let a = append_assoc code b (graphs_block (map graph_of_function (drop (m + 1) fs)) (length code + length b)) in
      ap (λ xs. xs ++ graphs_block (map graph_of_function (drop (m + 1) fs)) (length new)) made_so ∙ n ∙ a ∙ sym d ∙ i

  -- and its row of the table
  pub function_row_kept : (ts ts' whole : List Function) (t : Function) → ts ++ functions_from (drop m fs) (length code) ≡ whole → t ≡ (length code, f.parameters, length f.locals) → ts' ≡ ts ++ t ∷ []
      → ts' ++ functions_from (drop (m + 1) fs) (length new) ≡ whole
  function_row_kept ts ts' whole t i r q =
      let row : Function = (length code, f.parameters, length f.locals) in
      let rest = functions_from (drop (m + 1) fs) in
      let d = ap (λ xs. ts ++ functions_from xs (length code)) (drop_next fs m f h) in
      let a = append_assoc ts (row ∷ []) (rest (length code + length (graph_block (graph_of_function f) (length code)))) in
      ap (λ xs. xs ++ rest (length new)) q ∙ ap (λ x. (ts ++ x ∷ []) ++ rest (length new)) r ∙ ap (λ l. (ts ++ row ∷ []) ++ rest l) longer ∙ a ∙ sym d ∙ i

-- ---- programs

both_in : (o : Option RFunction) → length (found (option_map graph_of_function o)).edges ≡ length (found (option_map graph_of_function o)).works
both_in None = refl
both_in (Some f) = (graph_is_joined (length f.locals) f.body).same

graphs_have_both : (p : Resolved) → HaveBoth (graphs_of p)
graphs_have_both p None = (graph_is_joined 0 p.main.body).same
graphs_have_both p (Some m) = subst (λ (o : Option Graph). length (found o).edges ≡ length (found o).works) (sym (slice_get-map graph_of_function p.functions m)) (both_in (slice_get p.functions m))

pub have_both : (p : Resolved) (gs : Graphs) → gs ≡ graphs_of p → HaveBoth gs
have_both p gs e = subst HaveBoth (sym e) (graphs_have_both p)

places_length : (m : ℕ) (es : List Edge) (ws : List NodeWork) (p : ℕ) → length es ≡ length ws → length (places m es ws p) ≡ length ws
places_length m [] [] p h = refl
places_length m [] (w ∷ ws) p h = absurd (omega arith)
places_length m (e ∷ es) [] p h = absurd (omega arith)
places_length m (e ∷ es) (w ∷ ws) p h = ap (λ n. suc n) (places_length (m + 1) es ws _ (omega arith))

pub starts_length : (g : Graph) (p : ℕ) (ps qs : List ℕ) → length g.edges ≡ length g.works → ps ≡ starts g p → qs ≡ ps → length qs ≡ length g.works
starts_length g p ps qs h e k = ap length (k ∙ e) ∙ places_length 0 g.edges g.works _ h
