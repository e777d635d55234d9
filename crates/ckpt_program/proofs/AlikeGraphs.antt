-- Graphs whose nodes do the same have the same excluded cells.
use Rattle.std.proofs.Common.{◌≡◌, ◌+◌, ◌<◌, ◌≤◌, Bool, ℕ, Option, Some, zero, suc, List, [], ◌∷◌, length, cond, refl, sym, ap, ◌∙◌, subst, arith, ⊎_elim, inl, inr, ◌||◌}
use Rattle.std.specs.Prelude.{slice_get}
use Rattle.std.specs.List.{count_by}
use Rattle.std.proofs.lemmas.List.Sums.{sum_by-cons}
use Rattle.std.specs.Option.{option_map_or}
use Rattle.path_laws.specs.declared.graph.Mark.{Mark}
use Rattle.path_laws.specs.declared.graph.Mark.TheVariants.{Plain}
use Rattle.path_laws.specs.declared.graph.Node.{Node}
use Rattle.path_laws.specs.Edge.{is_at}
use Rattle.path_laws.specs.Graph.{Graph, next_of, mark_of, may_read, may_write, kills, has_edge, mark_is_checkpoint, mark_is_exclude, mark_is_directive, exclude_count}
use Rattle.path_laws.specs.Walks.{IsWalkFrom, last_of, NoExclude}
use Rattle.path_laws.specs.Forgettable.{ReadsUnkilled, IsForgettable}
use Rattle.cell_sets.specs.Sets.{Cells}
use Rattle.exclusion_equations.specs.Excluded.{Leads, IsDead, WritesBefore, IsReadOnly, Sets, dead_of, read_only_of, IsExactly, AreExact}

-- the nodes have the same edges and marks
pub record AreJoinedAlike (g h : Graph) : Type 0 where
  pub count : length g.nodes ≡ length h.nodes
  pub next : (n : ℕ) → next_of g n ≡ next_of h n
  pub marked : (n : ℕ) → mark_of g n ≡ mark_of h n

-- .. and do the same to a cell
pub record TreatAlike (g h : Graph) (c : ℕ) : Type 0 where
  pub reads : (n : ℕ) → may_read g n c ≡ may_read h n c
  pub writes : (n : ℕ) → may_write g n c ≡ may_write h n c
  pub kills : (n : ℕ) → kills g n c ≡ kills h n c

abbrev pub back : (g h : Graph) → AreJoinedAlike g h → AreJoinedAlike h g
back g h a = record { count = sym a.count; next = λ n. sym (a.next n); marked = λ n. sym (a.marked n) }

abbrev pub back_at : (g h : Graph) (c : ℕ) → TreatAlike g h c → TreatAlike h g c
back_at g h c t = record { reads = λ n. sym (t.reads n); writes = λ n. sym (t.writes n); kills = λ n. sym (t.kills n) }

module _ (g h : Graph) (a : AreJoinedAlike g h) where
  edge : (n m : ℕ) → has_edge g n m ≡ has_edge h n m
  edge n m = ap (λ (to : Option ℕ × Option ℕ). is_at to.0 m || is_at to.1 m) (a.next n)

  pub walk : (n : ℕ) (w : List ℕ) → IsWalkFrom g n w → IsWalkFrom h n w
  walk n [] p = subst (λ (k : ℕ). n < k) a.count p
  walk n (m ∷ w) p = (sym (edge n m) ∙ p.0, walk m w p.1)

  pub free : (w : List ℕ) → NoExclude g w → NoExclude h w
  free [] p = tt
  free (n ∷ w) p = (ap mark_is_exclude (sym (a.marked n)) ∙ p.0, free w p.1)

  leads : (k n m : ℕ) (w : List ℕ) → Leads g k n m w → Leads h k n m w
  leads k n m w l = record {
    leaves = ap (mark_is_directive k) (sym (a.marked n)) ∙ l.leaves;
    walk = walk n (m ∷ w) l.walk;
    free = free (m ∷ w) l.free;
    reaches = ap mark_is_checkpoint (sym (a.marked (last_of m w))) ∙ l.reaches;
  }

  module _ (c : ℕ) (t : TreatAlike g h c) where
    unkilled : (n : ℕ) (w : List ℕ) → ReadsUnkilled g c n w → ReadsUnkilled h c n w
    unkilled n [] p = sym (t.reads n) ∙ p
    unkilled n (m ∷ w) p = (sym (t.kills n) ∙ p.0, unkilled m w p.1)

    writes_before : (n : ℕ) (w : List ℕ) → WritesBefore g c n w → WritesBefore h c n w
    writes_before n [] p = p
    writes_before n (m ∷ w) p = ⊎_elim (λ here. inl (sym (t.writes n) ∙ here)) (λ later. inr (writes_before m w later)) p

forgettable : (g h : Graph) (c n : ℕ) → AreJoinedAlike g h → TreatAlike g h c → IsForgettable g c n → IsForgettable h c n
forgettable g h c n a t f m w p reads = f m w (walk h g (back g h a) n (m ∷ w) p) (unkilled h g (back g h a) c (back_at g h c t) m w reads)

pub dead : (g h : Graph) (k c : ℕ) → AreJoinedAlike g h → TreatAlike g h c → IsDead g k c → IsDead h k c
dead g h k c a t d n m w l = forgettable g h c (last_of m w) a t (d n m w (leads h g (back g h a) k n m w l))

pub read_only : (g h : Graph) (k c : ℕ) → AreJoinedAlike g h → TreatAlike g h c → IsReadOnly g k c → IsReadOnly h k c
read_only g h k c a t r = (λ d. r.0 (dead h g k c (back g h a) (back_at g h c t) d), λ n m w l before. r.1 n m w (leads h g (back g h a) k n m w l) (writes_before h g (back g h a) c (back_at g h c t) m w before))

-- ---- the sets

-- lists whose elements pass two tests alike have as many that pass
pub counted_alike : (A B : Type 0) (f : A → Bool) (g : B → Bool) (xs : List A) (ys : List B) → length xs ≡ length ys → ((n : ℕ) (x : A) (y : B) → slice_get xs n ≡ Some x → slice_get ys n ≡ Some y → f x ≡ g y) → count_by f xs ≡ count_by g ys
counted_alike A B f g [] [] l same = refl
counted_alike A B f g [] (y ∷ ys) l same = absurd (omega arith)
counted_alike A B f g (x ∷ xs) [] l same = absurd (omega arith)
counted_alike A B f g (x ∷ xs) (y ∷ ys) l same =
    let rest : count_by f xs ≡ count_by g ys = counted_alike A B f g xs ys (omega arith) (λ n v w a b. same (suc n) v w a b) in
    sum_by-cons (λ v. cond (f v) 1 0) x xs ∙ ap (λ (b : Bool). cond b 1 0 + count_by f xs) (same zero x y refl refl) ∙ ap (λ (n : ℕ). cond (g y) 1 0 + n) rest ∙ sym (sum_by-cons (λ w. cond (g w) 1 0) y ys)

abbrev mark_in : Option Node → Mark
mark_in d = option_map_or (λ d. d.mark) d Plain

counted : (g h : Graph) → AreJoinedAlike g h → exclude_count g ≡ exclude_count h
counted g h a = counted_alike Node Node (λ d. mark_is_exclude d.mark) (λ d. mark_is_exclude d.mark) g.nodes h.nodes a.count (λ n d e x y. ap mark_is_exclude (ap mark_in (sym x) ∙ a.marked n ∙ ap mark_in y))

exactly : (cells : ℕ) (P Q : ℕ → Type 0) (s : Cells) → ((c : ℕ) → c < cells → P c → Q c) → ((c : ℕ) → c < cells → Q c → P c) → IsExactly cells P s → IsExactly cells Q s
exactly cells P Q s to from e = record { universe = e.universe; exact = λ c below. (λ has. to c below ((e.exact c below).0 has), λ holds. (e.exact c below).1 (from c below holds)) }

-- what is exact for one is exact for the other
pub exact_alike : (g h : Graph) (s : Sets) → g.cells ≡ h.cells → AreJoinedAlike g h → ((c : ℕ) → c < g.cells → TreatAlike g h c) → AreExact g s → AreExact h s
exact_alike g h s cells a treat e =
    let count : exclude_count g ≡ exclude_count h = counted g h a in
    record {
      dead_len = e.dead_len ∙ count;
      read_only_len = e.read_only_len ∙ count;
      dead = λ k low high. subst (λ (n : ℕ). IsExactly n (IsDead h k) (dead_of s k)) cells (exactly g.cells (IsDead g k) (IsDead h k) (dead_of s k) (λ c below. dead g h k c a (treat c below)) (λ c below. dead h g k c (back g h a) (back_at g h c (treat c below))) (e.dead k low (subst (λ (n : ℕ). k ≤ n) (sym count) high)));
      read_only = λ k low high. subst (λ (n : ℕ). IsExactly n (IsReadOnly h k) (read_only_of s k)) cells (exactly g.cells (IsReadOnly g k) (IsReadOnly h k) (read_only_of s k) (λ c below. read_only g h k c a (treat c below)) (λ c below. read_only h g k c (back g h a) (back_at g h c (treat c below))) (e.read_only k low (subst (λ (n : ℕ). k ≤ n) (sym count) high)));
    }
