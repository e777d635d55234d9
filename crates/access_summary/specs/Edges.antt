-- The edges between the nodes of a function, whose nodes are numbered in the order of the text.
use Rattle.std.specs.Prelude.{ℕ, ◌+◌, List, [], ◌∷◌, ◌++◌, Option, Some, None, slice_get}
use Rattle.std.specs.Option.{option_map}
use Rattle.c_tree.specs.declared.resolved.RArm.{RArm}
use Rattle.c_tree.specs.declared.resolved.RStmt.{RStmt}
use Rattle.c_tree.specs.declared.resolved.RStmt.TheOpen.{RStmt-F, RArm-F}
use Rattle.c_tree.specs.declared.resolved.RStmt.TheFolds.{fold-RStmt, fold-RArm}
use Rattle.c_tree.specs.declared.resolved.Resolved.{Resolved}
use Rattle.c_tree.specs.Nodes.{init_count, assign_count}
pub use Rattle.access_summary.specs.declared.edge_list.Targets.{Targets}

-- the nodes that a node goes on to: a test to one where it holds and to one where it does not, every other node to one, the end to none
abbrev pub Edge : Type 0
Edge = Option ℕ × Option ℕ

abbrev pub edge : ℕ → Edge
edge n = (Some n, None)

abbrev pub test : ℕ → ℕ → Edge
test holding failing = (Some holding, Some failing)

-- how many nodes a statement has, at which it begins, and its edges, given the number of its first node and the nodes that it goes on to
pub record Laid : Type 0 where
  pub size : ℕ
  pub entry : ℕ → Targets → ℕ
  pub edges : ℕ → Targets → List Edge

-- no node
abbrev pub nothing : (Targets → ℕ) → Laid
nothing to = record { size = 0; entry = λ m t. to t; edges = λ m t. [] }

-- one node
abbrev pub one : (Targets → ℕ) → Laid
one to = record { size = 1; entry = λ m t. m; edges = λ m t. edge (to t) ∷ [] }

abbrev pub size_all : List Laid → ℕ
size_all [] = 0
size_all (p ∷ ps) = p.size + size_all ps

abbrev pub entry_all : List Laid → ℕ → Targets → ℕ
entry_all [] m t = t.next
entry_all (p ∷ ps) m t = p.entry m (record t { next = entry_all ps (m + p.size) t })

-- one statement after the other
abbrev pub edges_all : List Laid → ℕ → Targets → List Edge
edges_all [] m t = []
edges_all (p ∷ ps) m t = p.edges m (record t { next = entry_all ps (m + p.size) t }) ++ edges_all ps (m + p.size) t

abbrev pub last_of : Option Laid → Laid
last_of None = nothing (λ t. t.next)
last_of (Some p) = p

abbrev pub size_arms : List Laid → ℕ
size_arms [] = 0
size_arms (a ∷ as') = 1 + a.size + size_arms as'

abbrev pub entry_arms : List Laid → Laid → ℕ → Targets → ℕ
entry_arms [] last m t = last.entry m t
entry_arms (a ∷ as') last m t = m

-- the test of an arm goes on to its body, or to the next arm (C99 6.8.4.1)
abbrev pub edges_arms : List Laid → Laid → ℕ → Targets → List Edge
edges_arms [] last m t = last.edges m t
edges_arms (a ∷ as') last m t = test (a.entry (m + 1) t) (entry_arms as' last (m + 1 + a.size) t) ∷ (a.edges (m + 1) t ++ edges_arms as' last (m + 1 + a.size) t)

-- the body of a loop goes on to the loop's next turn (C99 6.8.5)
abbrev pub loop_targets : ℕ → Targets → Targets
loop_targets again t = record { next = again; out_of_loop = t.next; again = again; end = t.end }

-- a node that may be absent
abbrev pub perhaps : {A : Type 0} → Option A → ℕ → List Edge
perhaps None to = []
perhaps (Some x) to = edge to ∷ []

-- the edges of a statement, from those of its parts
abbrev pub laid_at : RStmt-F Laid Laid → Laid
laid_at RStmt-F.Empty = nothing (λ t. t.next)
laid_at RStmt-F.Break = nothing (λ t. t.out_of_loop)
laid_at RStmt-F.Continue = nothing (λ t. t.again)
laid_at (RStmt-F.Declare p e) = one (λ t. t.next)
laid_at (RStmt-F.Set p e) = one (λ t. t.next)
laid_at (RStmt-F.Call p f es) = one (λ t. t.next)
laid_at (RStmt-F.Input p) = one (λ t. t.next)
laid_at (RStmt-F.Put e) = one (λ t. t.next)
laid_at (RStmt-F.Print ps es) = one (λ t. t.next)
laid_at RStmt-F.Checkpoint = one (λ t. t.next)
laid_at (RStmt-F.Exclude k) = one (λ t. t.next)
laid_at (RStmt-F.Return e) = one (λ t. t.end)
laid_at (RStmt-F.ReturnCall f es) = one (λ t. t.end)
laid_at RStmt-F.ReturnInput = one (λ t. t.end)
laid_at (RStmt-F.Block ps) = record { size = size_all ps; entry = entry_all ps; edges = edges_all ps }
laid_at (RStmt-F.If arms last) = record {
  size = size_arms arms + (last_of last).size;
  entry = entry_arms arms (last_of last);
  edges = edges_arms arms (last_of last);
}
-- the test, the body
laid_at (RStmt-F.While e p) = record {
  size = 1 + p.size;
  entry = λ m t. m;
  edges = λ m t. let u = loop_targets m t in test (p.entry (m + 1) u) t.next ∷ p.edges (m + 1) u;
}
-- the body, the test
laid_at (RStmt-F.Do p e) = record {
  size = 1 + p.size;
  entry = λ m t. p.entry m (loop_targets (m + p.size) t);
  edges = λ m t. let u = loop_targets (m + p.size) t in p.edges m u ++ test (p.entry m u) t.next ∷ [];
}
-- the beginning, the test, the update, the body; the body goes on to the update, or where there is none to the test
laid_at (RStmt-F.For init e update p) = record {
  size = init_count init + 1 + assign_count update + p.size;
  entry = λ m t. m;
  edges = λ m t.
      let k = m + init_count init in
      let u = loop_targets (k + assign_count update) t in
      let b = k + 1 + assign_count update in
      perhaps init k ++ test (p.entry b u) t.next ∷ (perhaps update k ++ p.edges b u);
}

abbrev pub arm_at : RArm-F Laid Laid → Laid
arm_at a = a.body

abbrev pub laid : RStmt → Laid
laid = fold-RStmt Laid Laid laid_at arm_at

abbrev pub arm_laid : RArm → Laid
arm_laid = fold-RArm Laid Laid laid_at arm_at

-- ---- functions

-- every way out of a function's body goes to its end node
abbrev pub to_end : ℕ → Targets
to_end n = record { next = n; out_of_loop = n; again = n; end = n }

-- the node at which a function begins, and the edges of its nodes
abbrev pub FunctionEdges : Type 0
FunctionEdges = ℕ × List Edge

abbrev pub entry_in : FunctionEdges → ℕ
entry_in e = e.0

abbrev pub edges_in : FunctionEdges → List Edge
edges_in e = e.1

-- those of a body; the end node stands behind all others
abbrev pub edges_of_body : RStmt → FunctionEdges
edges_of_body body =
    let p = laid body in
    let to = to_end p.size in
    (p.entry 0 to, p.edges 0 to ++ (None, None) ∷ [])

-- the body of a function, or of `main`
abbrev pub body_of : Resolved → Option ℕ → Option RStmt
body_of p None = Some p.main.body
body_of p (Some f) = option_map (λ g. g.body) (slice_get p.functions f)
