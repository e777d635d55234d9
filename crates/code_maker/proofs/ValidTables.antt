-- The tables of a code: functions rise, and checkpoints are those of the nodes.
use Rattle.std.proofs.Common.{◌≡◌, ℕ, zero, suc, ◌+◌, ◌<◌, ◌≤◌, max, List, [], ◌∷◌, ◌++◌, length, map, Some, Bool, true, false, refl, ap, ◌∙◌, subst, arith, length-append}
use Rattle.std.specs.Prelude.{◌==◌, ◌&&◌, ◌||◌, nat_le, slice_get, slice_index, slice_index_or, if◌then◌else◌}
use Rattle.std.specs.List.{All, list_any}
use Rattle.std.proofs.lemmas.Bool.{le-leb, lt-leb}
use Rattle.std.proofs.lemmas.List.Elements.{All-cons}
use Rattle.c_tree.specs.declared.resolved.RStmt.{RStmt}
use Rattle.c_tree.specs.declared.resolved.RFunction.{RFunction}
use Rattle.access_summary.specs.Edges.{Edge}
use Rattle.flow_graph.specs.declared.node.NodeWork.{NodeWork}
use Rattle.flow_graph.specs.declared.node.NodeWork.TheVariants as work
use Rattle.flow_graph.specs.Run.{graph_of, graph_of_function}
use Rattle.flow_graph.proofs.Joins.{graph_is_joined}
use Rattle.machine_code.specs.CodeView.{Function, start, Checkpoint, node, place_after, home, locals_from}
use Rattle.machine_code.specs.Valid.{AreDistinct, IsNewAt}
use Rattle.code_maker.specs.NodeCode.{segment, segments, places, entry_jump, start_in, graph_block}
use Rattle.code_maker.specs.ProgramCode.{functions_from, checkpoint_at, checkpoints_from}
use Rattle.code_maker.proofs.Segments.{none_some, some_is}

-- ---- no code is empty

segment_some : (f : ℕ → ℕ) (m : ℕ) (to : Edge) (w : NodeWork) (p : ℕ) → 0 < length (segment f m to w p)
segment_some f m to work.End p = omega arith
segment_some f m to w p = omega arith

segments_some : (f : ℕ → ℕ) (m : ℕ) (tos : List Edge) (ws : List NodeWork) (p : ℕ) → length tos ≡ length ws → 0 < length ws → 0 < length (segments f m tos ws p)
segments_some f m [] ws p e lt = absurd (omega arith)
segments_some f m (to ∷ tos) [] p e lt = absurd (omega arith)
segments_some f m (to ∷ tos) (w ∷ ws) p e lt =
    let s = segment f m to w p in
    omega (arith, length-append s (segments f (m + 1) tos ws (p + length s)), segment_some f m to w p)

pub graph_some : (count : ℕ) (body : RStmt) (p : ℕ) → 0 < length (graph_block (graph_of count body) p)
graph_some count body p =
    let g = graph_of count body in
    let joined = graph_is_joined count body in
    let j = entry_jump (start_in g p) g.entry in
    let s = segments_some (start_in g p) 0 g.edges g.works (p + length j) joined.same (omega (arith, joined.entry)) in
    omega (arith, length-append j (segments (start_in g p) 0 g.edges g.works (p + length j)))

-- ---- numbers that rise

-- each is above the one before it, and the first is at least b
abbrev pub Rises : ℕ → List ℕ → Type 0
Rises b [] = Unit {0}
Rises b (x ∷ xs) = (b ≤ x) × Rises (x + 1) xs

pub rises_from : (a b : ℕ) (xs : List ℕ) → a ≤ b → Rises b xs → Rises a xs
rises_from a b [] le h = tt
rises_from a b (x ∷ xs) le h = let k = h.0 in (omega arith, h.1)

rises_above : (b : ℕ) (xs : List ℕ) (j : ℕ) → Rises b xs → j < length xs → b ≤ slice_index xs j
rises_above b [] j h lt = absurd (omega arith)
rises_above b (x ∷ xs) zero h lt = h.0
rises_above b (x ∷ xs) (suc j) h lt = let k = rises_above (x + 1) xs j h.1 (omega arith) in omega (arith, h.0)

rises_apart : (b : ℕ) (xs : List ℕ) (j i : ℕ) → Rises b xs → j < length xs → i < j → slice_index xs i < slice_index xs j
rises_apart b [] j i h lt less = absurd (omega arith)
rises_apart b (x ∷ xs) zero i h lt less = absurd (omega arith)
rises_apart b (x ∷ xs) (suc j) zero h lt less = let k = rises_above (x + 1) xs j h.1 (omega arith) in omega arith
rises_apart b (x ∷ xs) (suc j) (suc i) h lt less = rises_apart (x + 1) xs j i h.1 (omega arith) (omega arith)

pub rising_distinct : (b : ℕ) (xs : List ℕ) → Rises b xs → AreDistinct xs
unfolding IsNewAt
rising_distinct b xs h j lt i less e = absurd (omega (arith, rises_apart b xs j i h lt less))

-- ---- the table of functions

abbrev pub next_function : RFunction → ℕ → ℕ
next_function f p = p + length (graph_block (graph_of_function f) p)

pub function_later : (f : RFunction) (p : ℕ) → p < next_function f p
function_later f p = let h = graph_some (length f.locals) f.body p in omega arith

pub functions_length : (fs : List RFunction) (p : ℕ) → length (functions_from fs p) ≡ length fs
functions_length [] p = refl
functions_length (f ∷ fs) p = ap suc (functions_length fs (next_function f p))

pub starts_rise : (fs : List RFunction) (p : ℕ) → Rises p (map start (functions_from fs p))
starts_rise [] p = tt
starts_rise (f ∷ fs) p =
    let q = next_function f p in
    let h = function_later f p in
    (omega arith, rises_from (p + 1) q (map start (functions_from fs q)) (omega arith) (starts_rise fs q))

pub start_above : (fs : List RFunction) (p k : ℕ) (f : Function) → slice_get (functions_from fs p) k ≡ Some f → p ≤ start f
start_above [] p k f e = absurd (none_some e)
start_above (g ∷ fs) p zero f e = let same = ap start (some_is e) in omega arith
start_above (g ∷ fs) p (suc k) f e = let h = function_later g p in let r = start_above fs (next_function g p) k f e in omega arith

if_yes : {A : Type 0} → (b : Bool) (x y : A) → b ≡ true → (if b then x else y) ≡ x
if_yes true x y e = refl
if_yes false x y e = absurd (cc)

if_no : {A : Type 0} → (b : Bool) (x y : A) → b ≡ false → (if b then x else y) ≡ y
if_no true x y e = absurd (cc)
if_no false x y e = refl

-- before the first start a place belongs to none of them
pub home_before : (fs : List RFunction) (p q : ℕ) → q < p → home (functions_from fs p) q ≡ 0
home_before [] p q lt = refl
home_before (f ∷ fs) p q lt =
    let n = next_function f p in
    let h = function_later f p in
    if_no (nat_le p q) (max p (home (functions_from fs n) q)) (home (functions_from fs n) q) (lt-leb p q lt) ∙ home_before fs n q (omega arith)

pub home_behind : (f : RFunction) (fs : List RFunction) (p q : ℕ) → p ≤ q → home (functions_from (f ∷ fs) p) q ≡ max p (home (functions_from fs (next_function f p)) q)
home_behind f fs p q le =
    let n = next_function f p in
    if_yes (nat_le p q) (max p (home (functions_from fs n) q)) (home (functions_from fs n) q) (le-leb p q le)

pub locals_here : (f : RFunction) (fs : List RFunction) (p : ℕ) → locals_from (functions_from (f ∷ fs) p) p ≡ length f.locals
locals_here f fs p = if_yes (p == p) (length f.locals) (locals_from (functions_from fs (next_function f p)) p) (grind arith)

pub locals_behind : (f : RFunction) (fs : List RFunction) (p s : ℕ) → p < s → locals_from (functions_from (f ∷ fs) p) s ≡ locals_from (functions_from fs (next_function f p)) s
locals_behind f fs p s lt = if_no (p == s) (length f.locals) (locals_from (functions_from fs (next_function f p)) s) (grind arith)

-- ---- the table of checkpoints

-- what holds of the entry of each checkpoint among these nodes
pub each_checkpoint : (P : Checkpoint → Type 0) (ws : List NodeWork) (ps : List ℕ) (i : ℕ) → ((n : ℕ) → slice_get ws n ≡ Some work.Checkpoint → P (i + n, slice_index_or ps n 0 + 2)) → All P (checkpoints_from i ws ps)
each_checkpoint P [] ps i h = λ k d lt. absurd (omega arith)
each_checkpoint P (w ∷ ws) [] i h = λ k d lt. absurd (omega arith)
each_checkpoint P (w ∷ ws) (p ∷ ps) i h = by_work w (h 0) (each_checkpoint P ws ps (i + 1) more)
  where
    more : (n : ℕ) → slice_get ws n ≡ Some work.Checkpoint → P (i + 1 + n, slice_index_or ps n 0 + 2)
    more n e = let z : i + suc n ≡ i + 1 + n = omega arith in subst (λ k. P (k, slice_index_or ps n 0 + 2)) z (h (suc n) e)

    by_work : (v : NodeWork) → (Some v ≡ Some work.Checkpoint → P (i + 0, p + 2)) → All P (checkpoints_from (i + 1) ws ps) → All P (checkpoint_at i p v ++ checkpoints_from (i + 1) ws ps)
    by_work work.Checkpoint h rest = let z : i + 0 ≡ i = omega arith in All-cons P (i, p + 2) (checkpoints_from (i + 1) ws ps) (subst (λ k. P (k, p + 2)) z (h refl)) rest
    by_work v h rest = rest

pub checkpoints_rise : (ws : List NodeWork) (ps : List ℕ) (i : ℕ) → Rises i (map node (checkpoints_from i ws ps))
checkpoints_rise [] ps i = tt
checkpoints_rise (w ∷ ws) [] i = tt
checkpoints_rise (w ∷ ws) (p ∷ ps) i = by_work w (checkpoints_rise ws ps (i + 1))
  where
    by_work : (v : NodeWork) → Rises (i + 1) (map node (checkpoints_from (i + 1) ws ps)) → Rises i (map node (checkpoint_at i p v ++ checkpoints_from (i + 1) ws ps))
    by_work work.Checkpoint h = (omega arith, h)
    by_work v h = rises_from i (i + 1) (map node (checkpoints_from (i + 1) ws ps)) (omega arith) h

abbrev pub IsEntryOf : ℕ → ℕ → Checkpoint → Bool
IsEntryOf m q k = (node k == m) && (place_after k == q)

any_first : (a b : Bool) → a ≡ true → (a || b) ≡ true
any_first true b e = refl
any_first false b e = absurd (cc)

any_rest : (a b : Bool) → b ≡ true → (a || b) ≡ true
any_rest true b e = refl
any_rest false b e = e

-- the checkpoint of a node is in the table
pub checkpoint_listed : (ws : List NodeWork) (ps : List ℕ) (i n : ℕ) → slice_get ws n ≡ Some work.Checkpoint → n < length ps → list_any (IsEntryOf (i + n) (slice_index_or ps n 0 + 2)) (checkpoints_from i ws ps) ≡ true
checkpoint_listed [] ps i n e lt = absurd (none_some e)
checkpoint_listed (w ∷ ws) [] i n e lt = absurd (omega arith)
checkpoint_listed (w ∷ ws) (p ∷ ps) i zero e lt = by_work w e
  where
    by_work : (v : NodeWork) → Some v ≡ Some work.Checkpoint → list_any (IsEntryOf (i + 0) (p + 2)) (checkpoint_at i p v ++ checkpoints_from (i + 1) ws ps) ≡ true
    by_work work.Checkpoint e = any_first ((i == i + 0) && (p + 2 == p + 2)) (list_any (IsEntryOf (i + 0) (p + 2)) (checkpoints_from (i + 1) ws ps)) (grind arith)
    by_work v e = absurd (cc)
checkpoint_listed (w ∷ ws) (p ∷ ps) i (suc n) e lt =
    let z : i + 1 + n ≡ i + suc n = omega arith in
    let q = slice_index_or ps n 0 + 2 in
    by_work w (subst (λ k. list_any (IsEntryOf k q) (checkpoints_from (i + 1) ws ps) ≡ true) z (checkpoint_listed ws ps (i + 1) n e (omega arith)))
  where
    by_work : (v : NodeWork) → list_any (IsEntryOf (i + suc n) (slice_index_or ps n 0 + 2)) (checkpoints_from (i + 1) ws ps) ≡ true → list_any (IsEntryOf (i + suc n) (slice_index_or ps n 0 + 2)) (checkpoint_at i p v ++ checkpoints_from (i + 1) ws ps) ≡ true
    by_work work.Checkpoint h = any_rest ((i == i + suc n) && (p + 2 == slice_index_or ps n 0 + 2)) (list_any (IsEntryOf (i + suc n) (slice_index_or ps n 0 + 2)) (checkpoints_from (i + 1) ws ps)) h
    by_work v h = h

pub places_length : (m : ℕ) (tos : List Edge) (ws : List NodeWork) (p : ℕ) → length tos ≡ length ws → length (places m tos ws p) ≡ length ws
places_length m [] [] p e = refl
places_length m [] (w ∷ ws) p e = absurd (omega arith)
places_length m (to ∷ tos) [] p e = absurd (omega arith)
places_length m (to ∷ tos) (w ∷ ws) p e = ap suc (places_length (m + 1) tos ws (p + length (segment (λ n. 0) m to w p)) (omega arith))
