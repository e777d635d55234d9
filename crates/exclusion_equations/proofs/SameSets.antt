-- Graphs whose nodes do the same have the same excluded cells.
use Rattle.std.proofs.Common.{◌≡◌, ◌+◌, ◌<◌, ◌≤◌, Bool, ℕ, Option, Some, zero, suc, List, [], ◌∷◌, length, cond, refl, sym, ap, ◌∙◌, subst, arith, ⊎_elim, inl, inr, ◌||◌}
use Rattle.std.specs.Prelude.{slice_get}
use Rattle.std.specs.List.{count_by}
use Rattle.std.proofs.lemmas.List.Sums.{sum_by-cons}
use Rattle.std.specs.Option.{option_map_or}
use Rattle.path_laws.specs.declared.graph.Mark.{Mark}
use Rattle.path_laws.specs.declared.graph.Mark.TheVariants.{Plain}
use Rattle.path_laws.specs.declared.graph.Node.{Node}
use Rattle.path_laws.specs.Edge.{is_at}
use Rattle.path_laws.specs.Graph.{Graph, has_edge, mark_is_checkpoint, mark_is_exclude, mark_is_directive, exclude_count}
use Rattle.path_laws.specs.Walks.{IsWalkFrom, last_of, NoExclude}
use Rattle.path_laws.specs.Forgettable.{ReadsUnkilled, IsForgettable}
use Rattle.cell_sets.specs.Sets.{Cells}
use Rattle.exclusion_equations.specs.SameGraphs.{DoTheSame}
use Rattle.exclusion_equations.specs.Excluded.{Leads, IsDead, WritesBefore, IsReadOnly, Sets, dead_of, read_only_of, IsExactly, AreExact}

other_way : (g h : Graph) → DoTheSame g h → DoTheSame h g
other_way g h a = record {
  cells = sym a.cells;
  count = sym a.count;
  next = λ n. sym (a.next n);
  marked = λ n. sym (a.marked n);
  reads = λ n c lt. sym (a.reads n c (subst (λ k. c < k) (sym a.cells) lt));
  writes = λ n c lt. sym (a.writes n c (subst (λ k. c < k) (sym a.cells) lt));
  kills = λ n c lt. sym (a.kills n c (subst (λ k. c < k) (sym a.cells) lt));
}

-- ---- walks

module _ (g h : Graph) (a : DoTheSame g h) where
  edge : (n m : ℕ) → has_edge g n m ≡ has_edge h n m
  edge n m = ap (λ (to : Option ℕ × Option ℕ). is_at to.0 m || is_at to.1 m) (a.next n)

  walk : (n : ℕ) (w : List ℕ) → IsWalkFrom g n w → IsWalkFrom h n w
  walk n [] p = subst (λ (k : ℕ). n < k) a.count p
  walk n (m ∷ w) p = (sym (edge n m) ∙ p.0, walk m w p.1)

  free : (w : List ℕ) → NoExclude g w → NoExclude h w
  free [] p = tt
  free (n ∷ w) p = (ap mark_is_exclude (sym (a.marked n)) ∙ p.0, free w p.1)

  leads : (k n m : ℕ) (w : List ℕ) → Leads g k n m w → Leads h k n m w
  leads k n m w l = record {
    leaves = ap (mark_is_directive k) (sym (a.marked n)) ∙ l.leaves;
    walk = walk n (m ∷ w) l.walk;
    free = free (m ∷ w) l.free;
    reaches = ap mark_is_checkpoint (sym (a.marked (last_of m w))) ∙ l.reaches;
  }

  module _ (c : ℕ) (lt : c < g.cells) where
    unkilled : (n : ℕ) (w : List ℕ) → ReadsUnkilled g c n w → ReadsUnkilled h c n w
    unkilled n [] p = sym (a.reads n c lt) ∙ p
    unkilled n (m ∷ w) p = (sym (a.kills n c lt) ∙ p.0, unkilled m w p.1)

    writes_before : (n : ℕ) (w : List ℕ) → WritesBefore g c n w → WritesBefore h c n w
    writes_before n [] p = p
    writes_before n (m ∷ w) p = ⊎_elim (λ here. inl (sym (a.writes n c lt) ∙ here)) (λ later. inr (writes_before m w later)) p

-- ---- excluded cells

module _ (g h : Graph) (a : DoTheSame g h) (c : ℕ) (lt : c < g.cells) where
  back : DoTheSame h g
  back = other_way g h a

  below : c < h.cells
  below = subst (λ k. c < k) a.cells lt

  forgettable : (n : ℕ) → IsForgettable g c n → IsForgettable h c n
  forgettable n f m w p reads = f m w (walk h g back n (m ∷ w) p) (unkilled h g back c below m w reads)

  pub same_dead : (k : ℕ) → IsDead g k c → IsDead h k c
  same_dead k d n m w l = forgettable (last_of m w) (d n m w (leads h g back k n m w l))

pub same_read_only : (g h : Graph) (a : DoTheSame g h) (c : ℕ) → c < g.cells → (k : ℕ) → IsReadOnly g k c → IsReadOnly h k c
same_read_only g h a c lt k r =
    let back = other_way g h a in
    let below = subst (λ k. c < k) a.cells lt in
    (λ d. r.0 (same_dead h g back c below k d), λ n m w l before. r.1 n m w (leads h g back k n m w l) (writes_before h g back c below m w before))

-- ---- the sets

-- lists whose elements pass a test alike have as many that pass
counted_alike : (A : Type 0) (f : A → Bool) (xs ys : List A) → length xs ≡ length ys → ((n : ℕ) (x y : A) → slice_get xs n ≡ Some x → slice_get ys n ≡ Some y → f x ≡ f y) → count_by f xs ≡ count_by f ys
counted_alike A f [] [] l same = refl
counted_alike A f [] (y ∷ ys) l same = absurd (omega arith)
counted_alike A f (x ∷ xs) [] l same = absurd (omega arith)
counted_alike A f (x ∷ xs) (y ∷ ys) l same =
    let rest : count_by f xs ≡ count_by f ys = counted_alike A f xs ys (omega arith) (λ n v w a b. same (suc n) v w a b) in
    sum_by-cons (λ v. cond (f v) 1 0) x xs ∙ ap (λ (b : Bool). cond b 1 0 + count_by f xs) (same zero x y refl refl) ∙ ap (λ (n : ℕ). cond (f y) 1 0 + n) rest ∙ sym (sum_by-cons (λ w. cond (f w) 1 0) y ys)

abbrev mark_in : Option Node → Mark
mark_in d = option_map_or (λ d. d.mark) d Plain

counted : (g h : Graph) → DoTheSame g h → exclude_count g ≡ exclude_count h
counted g h a = counted_alike Node (λ d. mark_is_exclude d.mark) g.nodes h.nodes a.count (λ n d e x y. ap mark_is_exclude (ap mark_in (sym x) ∙ a.marked n ∙ ap mark_in y))

exactly : (cells : ℕ) (P Q : ℕ → Type 0) (s : Cells) → ((c : ℕ) → c < cells → P c → Q c) → ((c : ℕ) → c < cells → Q c → P c) → IsExactly cells P s → IsExactly cells Q s
exactly cells P Q s to from e = record { universe = e.universe; exact = λ c below. (λ has. to c below ((e.exact c below).0 has), λ holds. (e.exact c below).1 (from c below holds)) }

-- what is exact for one is exact for the other
pub same_exact : (g h : Graph) (s : Sets) → DoTheSame g h → AreExact g s → AreExact h s
same_exact g h s a e =
    let count : exclude_count g ≡ exclude_count h = counted g h a in
    let back = other_way g h a in
    let there : (c : ℕ) → c < g.cells → c < h.cells = λ c lt. subst (λ k. c < k) a.cells lt in
    record {
      dead_len = e.dead_len ∙ count;
      read_only_len = e.read_only_len ∙ count;
      dead = λ k low high. subst (λ (n : ℕ). IsExactly n (IsDead h k) (dead_of s k)) a.cells (exactly g.cells (IsDead g k) (IsDead h k) (dead_of s k) (λ c lt. same_dead g h a c lt k) (λ c lt. same_dead h g back c (there c lt) k) (e.dead k low (subst (λ (n : ℕ). k ≤ n) (sym count) high)));
      read_only = λ k low high. subst (λ (n : ℕ). IsExactly n (IsReadOnly h k) (read_only_of s k)) a.cells (exactly g.cells (IsReadOnly g k) (IsReadOnly h k) (read_only_of s k) (λ c lt. same_read_only g h a c lt k) (λ c lt. same_read_only h g back c (there c lt) k) (e.read_only k low (subst (λ (n : ℕ). k ≤ n) (sym count) high)));
    }
