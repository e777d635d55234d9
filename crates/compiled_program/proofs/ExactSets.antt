-- The excluded sets of a program are what they are.
use Rattle.std.proofs.Common.{◌≡◌, ◌+◌, ◌-◌, ◌<◌, ◌≤◌, ℕ, false, List, [], length, get_or, sym, ap, ap₂, ◌∙◌, subst, arith, suc, ext_get_or}
use Rattle.std.proofs.lemmas.Bool.Decides.{same_from_decides}
use Rattle.std.proofs.lemmas.List.{get_or_default}
use Rattle.cell_sets.specs.Sets.{Cells, has, universe_of}
use Rattle.path_laws.specs.Graph.{Graph, exclude_count}
use Rattle.exclusion_equations.specs.Excluded.{Sets, IsDead, IsReadOnly, IsExactly, AreExact, numbered}
use Rattle.c_tree.specs.declared.resolved.Resolved.{Resolved}
use Rattle.flow_graph.specs.MainGraph.{IsMainGraph}
use Rattle.compiled_program.specs.CanRun.{AreSetsOf}
use Rattle.exclusion_equations.proofs.ClassLaws.{numbered_at}
use Rattle.exclusion_equations.proofs.SameSets.{same_exact}
use Rattle.flow_graph.proofs.SameMain.{same_main}

same_cells : (cells : ℕ) (P : ℕ → Type 0) (s t : Cells) → IsExactly cells P s → IsExactly cells P t → s ≡ t
same_cells cells P s t a b =
    ext_get_or false s t (a.universe ∙ sym b.universe) (λ c below.
    let inside : c < cells = subst (λ (n : ℕ). c < n) a.universe below in
    same_from_decides (has s c) (has t c) (a.exact c inside) (b.exact c inside))

pub numbered_next : (xs : List Cells) (i : ℕ) → get_or xs i [] ≡ numbered xs (i + 1)
numbered_next xs i =
    let e : suc i ≡ i + 1 = omega arith in
    ap (numbered xs) e

pub numbered_of : (sets : List Cells) (k : ℕ) → 1 ≤ k → get_or sets (k - 1) [] ≡ numbered sets k
numbered_of sets k low = numbered_at sets k low

-- the set of directive i + 1
same_at : (P : ℕ → ℕ → Type 0) (cells i : ℕ) (xs ys : List Cells) → IsExactly cells (P (i + 1)) (numbered xs (i + 1)) → IsExactly cells (P (i + 1)) (numbered ys (i + 1)) → get_or xs i [] ≡ get_or ys i []
same_at P cells i xs ys a b = numbered_next xs i ∙ same_cells cells (P (i + 1)) (numbered xs (i + 1)) (numbered ys (i + 1)) a b ∙ sym (numbered_next ys i)

one_exact : (g : Graph) (s t : Sets) → AreExact g s → AreExact g t → s ≡ t
one_exact g s t a b =
    let dead : s.dead ≡ t.dead = ext_get_or [] s.dead t.dead (a.dead_len ∙ sym b.dead_len) (λ i below.
    same_at (IsDead g) g.cells i s.dead t.dead (a.dead (i + 1) (omega arith) (omega (arith, below, a.dead_len))) (b.dead (i + 1) (omega arith) (omega (arith, below, a.dead_len)))) in
    let read_only : s.read_only ≡ t.read_only = ext_get_or [] s.read_only t.read_only (a.read_only_len ∙ sym b.read_only_len) (λ i below.
    same_at (IsReadOnly g) g.cells i s.read_only t.read_only (a.read_only (i + 1) (omega arith) (omega (arith, below, a.read_only_len))) (b.read_only (i + 1) (omega arith) (omega (arith, below, a.read_only_len)))) in
    ap₂ (λ (d r : List Cells). the_sets d r) dead read_only
  where
    the_sets : List Cells → List Cells → Sets
    the_sets d r = record { dead = d; read_only = r }

-- sets that are exact for graphs of `main` of one program are the same
pub same_sets : (p : Resolved) (g h : Graph) (s t : Sets) → IsMainGraph p g → IsMainGraph p h → AreExact g s → AreExact h t → s ≡ t
same_sets p g h s t a b x y = one_exact h s t (same_exact g h s (same_main p g h a b) x) y

-- each of exact sets has the program's cells
sets_each : (P : ℕ → ℕ → Type 0) (count cells : ℕ) (xs : List Cells) → length xs ≡ count → ((k : ℕ) → 1 ≤ k → k ≤ count → IsExactly cells (P k) (numbered xs k)) → AreSetsOf count cells xs
sets_each P count cells xs size each = record {
  count_is = size;
  each = λ k d below.
      ap universe_of (get_or_default xs k d [] below ∙ numbered_next xs k) ∙ (each (k + 1) (omega arith) (omega (arith, below, size))).universe;
}

pub dead_sets : (g : Graph) (s : Sets) → AreExact g s → AreSetsOf (exclude_count g) g.cells s.dead
dead_sets g s a = sets_each (IsDead g) (exclude_count g) g.cells s.dead a.dead_len a.dead

pub read_only_sets : (g : Graph) (s : Sets) → AreExact g s → AreSetsOf (exclude_count g) g.cells s.read_only
read_only_sets g s a = sets_each (IsReadOnly g) (exclude_count g) g.cells s.read_only a.read_only_len a.read_only

-- exact sets, kept as rows
pub exact_rows : (g : Graph) (e : Sets) (d r : List Cells) → d ≡ e.dead → r ≡ e.read_only → AreExact g e → AreExact g (record { dead = d; read_only = r })
exact_rows g e d r dead read_only exact =
    subst (λ (x : List Cells). AreExact g (record { dead = x; read_only = r })) (sym dead) (subst (λ (x : List Cells). AreExact g (record { dead = e.dead; read_only = x })) (sym read_only) exact)
