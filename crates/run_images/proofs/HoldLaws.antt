-- A taken image holds what the run needs.
use Rattle.std.proofs.Common.{◌≡◌, refl, sym, ◌∙◌, ap, subst, ℕ, zero, suc, ◌/◌, ◌<◌, ◌≤◌, ◌==◌, ◌||◌, ◌&&◌, not, nat_lt, Bool, true, false, ⊎_elim, List, [], ◌∷◌, ◌++◌, length, append_assoc, Option, Some, None, arith}
use Rattle.std.specs.Prelude.{is_some, slice_index, slice_index_or}
use Rattle.std.specs.Option.{option_or}
use Rattle.std.specs.List.{list_any}
use Rattle.std.proofs.lemmas.Bool.Decides.{nat_tests}
use Rattle.ckpt_base.specs.Event.{Event, Excluded, Checkpoint}
use Rattle.c_tree.specs.declared.resolved.Resolved.{Resolved}
use Rattle.c_tree.specs.Layout.{cell_count}
use Rattle.c_tree.specs.Checked.{IsChecked}
use Rattle.c_tree.specs.Meaning.{meaning}
use Rattle.cell_sets.specs.Sets.{Cells, has}
use Rattle.path_laws.specs.Graph.{Graph, exclude_count}
use Rattle.path_laws.specs.Forgettable.{IsForgettable}
use Rattle.exclusion_equations.specs.Excluded.{IsDead, IsReadOnly, numbered, dead_of, read_only_of}
use Rattle.image_format.specs.Image.{Image, word_in_runs}
use Rattle.image_chain.specs.Records.{newest_of}
use Rattle.image_chain.specs.Memory.{memory}
use Rattle.run_images.specs.Since.{Since, at_first, is_fresh, is_page_fresh, since_after}
use Rattle.run_images.specs.Images.{Taking, TakenImage, is_excluded, lists_at, taken_at, images}
use Rattle.run_images.specs.JoinedList.{lists_cell, IsOf, IsJoinedList}
use Rattle.run_images.specs.Source.{Source, IsSource, run_of, taking_of}
use Rattle.run_images.specs.Hold.{HoldWords, HoldUnwritten, IsTakenAt}
use Rattle.flow_graph.specs.MainGraph.{IsMainGraph}
use Rattle.flow_graph.specs.Spared.{IsSpared}
use Rattle.run_images.proofs.ImageLaws.{same_last}
use Rattle.run_images.proofs.JoinLaws.{joined_newest}
use Rattle.run_images.proofs.FactLaws.{has_cell, Past, Facts, all_facts, or_both, or_one}

-- ---- words of records

or_assoc : (a b d : Option ℕ) → option_or (option_or a b) d ≡ option_or a (option_or b d)
or_assoc (Some w) b d = refl
or_assoc None b d = refl

or_none : (a : Option ℕ) → option_or a None ≡ a
or_none (Some w) = refl
or_none None = refl

pub memory_more : (rs : List Image) (r : Image) (c : ℕ) → memory (rs ++ r ∷ []) c ≡ option_or (word_in_runs r.runs c) (memory rs c)
memory_more [] r c = sym (or_none (word_in_runs r.runs c))
memory_more (q ∷ rs) r c = ap (λ o. option_or o (word_in_runs q.runs c)) (memory_more rs r c) ∙ or_assoc (word_in_runs r.runs c) (memory rs c) (word_in_runs q.runs c)

none_of : (o : Option ℕ) → is_some o ≡ false → o ≡ None
none_of None e = refl
none_of (Some w) e = absurd (let z : true ≡ false = e in cc)

-- ---- tests

page_first : (written : List ℕ) (c : ℕ) → list_any (λ d. d / 512 == c / 512) written ≡ false → has_cell written c ≡ false
page_first [] c e = refl
page_first (d ∷ ds) c e = let b = or_both (d / 512 == c / 512) (list_any (λ x. x / 512 == c / 512) ds) e in by_cell (d == c) refl b.0 (page_first ds c b.1)
  where
    by_cell : (x : Bool) → (d == c) ≡ x → (d / 512 == c / 512) ≡ false → has_cell ds c ≡ false → (d == c) || has_cell ds c ≡ false
    by_cell true e p rest = absurd (let same : d ≡ c = grind (arith, nat_tests, e) in let q : (d / 512 == c / 512) ≡ true = subst (λ z. (d / 512 == z / 512) ≡ true) same (grind (arith, nat_tests)) in let z : true ≡ false = sym q ∙ p in cc)
    by_cell false e p rest = ap (λ (b : Bool). b || has_cell ds c) e ∙ rest

and_both : (a b : Bool) → (a && b) ≡ true → (a ≡ true) × (b ≡ true)
and_both true b e = (refl, e)
and_both false b e = absurd (let z : false ≡ true = e in cc)

not_true : (a : Bool) → not a ≡ true → a ≡ false
not_true false e = refl
not_true true e = absurd (let z : false ≡ true = e in cc)

not_zero : (n : ℕ) → (n == 0) ≡ false → n ≡ 0 → ⊥
not_zero n e z = absurd (grind (arith, nat_tests, e, z))

zero_not : (n : ℕ) → (n ≡ 0 → ⊥) → (n == 0) ≡ false
zero_not n h = grind (arith, nat_tests, h)

-- a set that has a cell is one of the list
among : (sets : List Cells) (k c : ℕ) → has (slice_index_or sets k []) c ≡ true → k < length sets
among [] k c e = absurd (let z : false ≡ true = e in cc)
among (x ∷ xs) zero c e = omega arith
among (x ∷ xs) (suc k) c e = let h = among xs k c e in omega (arith, h)

-- a numbered set that has a cell is one of the list
within_list : (sets : List Cells) (k c : ℕ) → has (numbered sets k) c ≡ true → k ≤ length sets
within_list sets zero c e = omega arith
within_list sets (suc k) c e = let h = among sets k c e in omega (arith, h)

module _ (s : Source) (is : IsSource s) (every node t : ℕ) (es : List Event) (spared : (c : ℕ) → c < cell_count s.program → IsSpared s.graph (run_of s t).events c) (ends : (run_of s t).events ≡ es ++ Checkpoint node t ∷ []) where
  abbrev T : Taking
  T = taking_of s every

  abbrev S : Since
  S = since_after every es at_first

  facts : Facts T es S
  facts = all_facts T es

  split_at : (a b : List Event) (e : Event) → es ≡ a ++ e ∷ b → (run_of s t).events ≡ a ++ e ∷ (b ++ Checkpoint node t ∷ [])
  split_at a b e at = ends ∙ ap (λ l. l ++ Checkpoint node t ∷ []) at ∙ append_assoc a (e ∷ b) (Checkpoint node t ∷ [])

  module _ (c : ℕ) (lt : c < cell_count s.program) (kept : IsForgettable s.graph c node → ⊥) where
    -- what the records before have to give
    abbrev Old : Type 0
    Old = (S.number ≡ 0 → ⊥) × (has_cell S.written c ≡ false)

    lt_cells : c < s.graph.cells
    lt_cells = subst (λ n. c < n) (sym is.graph.cells) lt

    dead_no : (S.directive ≡ 0 → ⊥) → has (dead_of s.sets S.directive) c ≡ true → ⊥
    dead_no some holds =
        let u = facts.under some in
        let k = S.directive in
        let within : k ≤ exclude_count s.graph = (let h = within_list s.sets.dead k c holds in let e = is.sets.dead_len in omega (arith, h, e)) in
        let dead : IsDead s.graph k c = ((is.sets.dead k (let z = zero_least k some in z) within).exact c lt_cells).0 holds in
        kept ((spared c lt).dead k node t u.before u.behind [] (split_at u.before u.behind (Excluded k) u.split) u.none dead)
      where
        zero_least : (k : ℕ) → (k ≡ 0 → ⊥) → 1 ≤ k
        zero_least zero h = absurd (h refl)
        zero_least (suc k) h = omega arith

    read_only_old : (S.directive ≡ 0 → ⊥) → S.included ≡ true → has (read_only_of s.sets S.directive) c ≡ true → Old
    read_only_old some included holds =
        let u = facts.under some in
        let k = S.directive in
        let within : k ≤ exclude_count s.graph = (let h = within_list s.sets.read_only k c holds in let e = is.sets.read_only_len in omega (arith, h, e)) in
        let only : IsReadOnly s.graph k c = ((is.sets.read_only k (zero_least k some) within).exact c lt_cells).0 holds in
        let never = (spared c lt).read_only k node t u.before u.behind [] (split_at u.before u.behind (Excluded k) u.split) u.none only in
        (facts.included included, by_written (has_cell S.written c) refl (λ e. never (u.within included c e)))
      where
        zero_least : (k : ℕ) → (k ≡ 0 → ⊥) → 1 ≤ k
        zero_least zero h = absurd (h refl)
        zero_least (suc k) h = omega arith

        by_written : (b : Bool) → has_cell S.written c ≡ b → (has_cell S.written c ≡ true → ⊥) → has_cell S.written c ≡ false
        by_written true e never = absurd (never e)
        by_written false e never = e

    not_listed : lists_at T S c ≡ false → Old
    not_listed e = by_page (is_page_fresh S (c / 512)) refl
      where
        in_cells : nat_lt c (cell_count s.program) ≡ true
        in_cells = grind (arith, nat_tests, lt)

        rest : (is_page_fresh S (c / 512) && not (is_excluded s.sets S.directive S.included c)) ≡ false
        rest = sym (ap (λ (b : Bool). b && (is_page_fresh S (c / 512) && not (is_excluded s.sets S.directive S.included c))) in_cells) ∙ e

        by_excluded : (b : Bool) → is_excluded s.sets S.directive S.included c ≡ b → is_page_fresh S (c / 512) ≡ true → Old
        by_excluded false x p = absurd (let z : true ≡ false = sym (ap (λ (b : Bool). b && not (is_excluded s.sets S.directive S.included c)) p ∙ ap not x) ∙ rest in cc)
        by_excluded true x p =
            let b = and_both (not (S.directive == 0)) (has (dead_of s.sets S.directive) c || (S.included && has (read_only_of s.sets S.directive) c)) x in
            let some = not_zero S.directive (not_true (S.directive == 0) b.0) in
            ⊎_elim (λ d. absurd (dead_no some d)) (λ o. let q = and_both S.included (has (read_only_of s.sets S.directive) c) o in read_only_old some q.0 q.1)
            (or_one (has (dead_of s.sets S.directive) c) (S.included && has (read_only_of s.sets S.directive) c) b.1)

        by_page : (b : Bool) → is_page_fresh S (c / 512) ≡ b → Old
        by_page true p = by_excluded (is_excluded s.sets S.directive S.included c) refl p
        by_page false p = let b = or_both (S.number == 0) (list_any (λ d. d / 512 == c / 512) S.written) p in (not_zero S.number b.0, page_first S.written c b.1)

    module _ (rs : List Image) (m : List ℕ) (joined : IsJoinedList rs (images T es))
        (old : HoldUnwritten s S rs m) where
      old_word : Old → memory rs c ≡ Some (slice_index m c)
      old_word h = by_records rs refl
        where
          past : Past T es S
          past = facts.some h.0

          fresh : is_fresh S c ≡ false
          fresh = ap (λ (b : Bool). b || has_cell S.written c) (zero_not S.number h.0) ∙ h.1

          stays : IsForgettable s.graph c past.image.fields.node → ⊥
          stays forgets = kept ((spared c lt).stays past.image.fields.node past.tick node t past.before past.behind [] (split_at past.before past.behind (Checkpoint past.image.fields.node past.tick) past.split) forgets (past.spared c h.1))

          none_image : (x : TakenImage) (xs : List TakenImage) → xs ++ x ∷ [] ≡ [] → ⊥
          none_image x [] e = cc
          none_image x (y ∷ ys) e = cc

          by_records : (qs : List Image) → rs ≡ qs → memory rs c ≡ Some (slice_index m c)
          by_records [] e = absurd (none_image past.image past.front (sym past.images_are ∙ subst (λ l. IsJoinedList l (images T es)) e joined))
          by_records (q ∷ qs) e =
              let last = joined_newest q qs (images T es) (subst (λ l. IsJoinedList l (images T es)) e joined) in
              let same = same_last last.front past.front last.image past.image (sym last.split ∙ past.images_are) in
              old past.image.fields c (ap (newest_of None) e ∙ last.fields ∙ ap (λ (i : TakenImage). Some i.fields) same) lt fresh stays

      word_now : (r : Image) → IsOf r (taken_at T node t S) → ((c : ℕ) → lists_cell r c ≡ true → word_in_runs r.runs c ≡ Some (slice_index m c)) → memory (rs ++ r ∷ []) c ≡ Some (slice_index m c)
      word_now r of words = by_listed (lists_cell r c) refl
        where
          by_listed : (b : Bool) → lists_cell r c ≡ b → memory (rs ++ r ∷ []) c ≡ Some (slice_index m c)
          by_listed true e = memory_more rs r c ∙ ap (λ o. option_or o (memory rs c)) (words c e)
          by_listed false e = memory_more rs r c ∙ ap (λ o. option_or o (memory rs c)) (none_of (word_in_runs r.runs c) e) ∙ old_word (not_listed (sym (of.lists c) ∙ e))

-- each run keeps what the excluded sets promise of it
abbrev pub RunsAreSpared : Type 0
RunsAreSpared = (p : Resolved) (g : Graph) (input : List ℕ) (n c : ℕ) → IsChecked p → IsMainGraph p g → c < cell_count p → IsSpared g (meaning p input n).events c

pub taken_holds : (s : Source) (every node t : ℕ) (es : List Event) (rs : List Image) (r : Image) (m : List ℕ) → RunsAreSpared → IsSource s → IsTakenAt s every node t es rs r m → HoldWords s node (rs ++ r ∷ []) m
taken_holds s every node t es rs r m spared is taken c lt kept =
    word_now s is every node t es (λ c lt. spared s.program s.graph s.input t c is.checked is.graph lt) taken.passes c lt kept rs m taken.joined taken.held r taken.image taken.words
