-- The state in which a program starts keeps its pointers.
use Rattle.std.proofs.Common.{◌≡◌, ℕ, ℤ, pos, zero, suc, ◌+◌, ◌-◌, ◌<◌, true, false, List, [], ◌∷◌, ◌++◌, length, get_or, Option, Some, inl, inr, refl, sym, ap, ◌∙◌, subst, arith, length-append, append_assoc}
use Rattle.std.specs.Prelude.{replicate}
use Rattle.std.specs.Option.{option_and_then}
use Rattle.std.specs.Ordering.{int_eq}
use Rattle.std.specs.List.{list_all}
use Rattle.std.proofs.lemmas.Bool.{cases_lt, and_parts, false≢true}
use Rattle.std.proofs.lemmas.Bool.Decides.{Decides-int_eq}
use Rattle.std.proofs.lemmas.Option.{none-some, same_Some}
use Rattle.ckpt_base.specs.Word.{word_of}
use Rattle.c_tree.specs.declared.resolved.ObjectKind.{ObjectKind}
use Rattle.c_tree.specs.declared.resolved.ObjectKind.TheVariants.{Number, Array, Pointer}
use Rattle.c_tree.specs.declared.resolved.RObject.{RObject}
use Rattle.c_tree.specs.declared.resolved.Resolved.{Resolved}
use Rattle.c_tree.specs.Layout.{object_cells, cell_count, object_words, first_words}
use Rattle.c_tree.specs.Checked.{variable_kind, element, main_variable, starts_rightly, IsChecked}
use Rattle.c_tree.specs.State.{first_state}
use Rattle.alias_sets.specs.declared.flows.PointerVar.TheVariants as var
use Rattle.path_laws.specs.Graph as effects
use Rattle.flow_graph.specs.Run.{graphs_of, at_entry}
use Rattle.flow_graph.specs.Agreement.{outside, IsKept, AgreeAt}
use Rattle.flow_graph.proofs.AgreeObjects.{element_first, element_later, element_within, main_of_file}
use Rattle.flow_graph.proofs.AgreeStores.{zero_kept}

module _ (v : ℕ) where
  replicated : (k c : ℕ) (ys : List ℕ) → c < k → get_or (replicate k v ++ ys) c 0 ≡ v
  replicated zero c ys lt = absurd (omega arith)
  replicated (suc k) zero ys lt = refl
  replicated (suc k) (suc c) ys lt = replicated k c ys (omega arith)

  past_replicated : (k c i : ℕ) (ys : List ℕ) → c ≡ k + i → get_or (replicate k v ++ ys) c 0 ≡ get_or ys i 0
  past_replicated zero c i ys e = ap (λ j. get_or ys j 0) (omega arith)
  past_replicated (suc k) zero i ys e = absurd (omega arith)
  past_replicated (suc k) (suc c) i ys e = past_replicated k c i ys (omega arith)

  replicate_long : (k : ℕ) → length (replicate k v) ≡ k
  replicate_long zero = refl
  replicate_long (suc k) = let e = replicate_long k in omega (arith, e)

zeros : (k c : ℕ) → ◌≡◌ {A = ℕ} (get_or (replicate k 0) c 0) 0
zeros zero c = refl
zeros (suc k) zero = refl
zeros (suc k) (suc c) = zeros k c

words_long : (os : List RObject) → length (object_words os) ≡ object_cells os
words_long [] = refl
words_long (o ∷ os) = length-append (replicate o.length (word_of o.first)) (object_words os) ∙ (let a = replicate_long (word_of o.first) o.length in let b = words_long os in omega (arith, a, b))

first_long : (p : Resolved) → length (first_words p) ≡ cell_count p
first_long p = length-append (object_words p.objects) (replicate (length p.main.locals) 0) ∙ (let a = words_long p.objects in let b = replicate_long 0 (length p.main.locals) in omega (arith, a, b))

-- the word of a cell at the start: the first number of its object, or 0
module _ (P : ℕ → Type 0) (z : P 0) where
  first_word : (os : List RObject) (k c : ℕ) → ((e : RObject × ℕ) → element os c ≡ Some e → P (word_of (e.0).first)) → P (get_or (object_words os ++ replicate k 0) c 0)
  first_word [] k c h = subst P (sym (zeros k c)) z
  first_word (o ∷ os) k c h = elim (cases_lt c o.length) [
    | inl lt ↦ subst P (sym (ap (λ (l : List ℕ). get_or l c 0) (append_assoc (replicate o.length (word_of o.first)) (object_words os) (replicate k 0)) ∙ replicated (word_of o.first) o.length c (object_words os ++ replicate k 0) lt)) (h (o, c) (element_first o os c c lt refl))
    | inr le ↦ subst P (sym (ap (λ (l : List ℕ). get_or l c 0) (append_assoc (replicate o.length (word_of o.first)) (object_words os) (replicate k 0)) ∙ past_replicated (word_of o.first) o.length c (c - o.length) (object_words os ++ replicate k 0) (omega arith)))
        (first_word os k (c - o.length) (λ e is. h e (element_later o os c le ∙ is)))
  ]

int_is : (v : ℤ) → int_eq v (pos 0) ≡ true → v ≡ pos 0
int_is v e = (Decides-int_eq v (pos 0)).0 e

pointer_first : (k : ObjectKind) (v : ℤ) → starts_rightly k v ≡ true → variable_kind k ≡ Some true → word_of v ≡ 0
pointer_first Number v s e = absurd (false≢true (same_Some false true e))
pointer_first Array v s e = absurd (none-some true e)
pointer_first Pointer v s e = ap word_of (int_is v s)

element_in : (os : List RObject) (c : ℕ) (e : RObject × ℕ) → element os c ≡ Some e → list_all (λ o. starts_rightly o.kind o.first) os ≡ true → starts_rightly (e.0).kind (e.0).first ≡ true
element_in [] c e is a = absurd (none-some e is)
element_in (o ∷ os) c e is a =
    let q = and_parts (starts_rightly o.kind o.first) (list_all (λ o. starts_rightly o.kind o.first) os) a in
    elim (cases_lt c o.length) [
      | inl lt ↦ subst (λ (z : RObject × ℕ). starts_rightly (z.0).kind (z.0).first ≡ true) (same_Some (o, c) e (sym (element_first o os c c lt refl) ∙ is)) q.0
      | inr le ↦ element_in os (c - o.length) e (sym (element_later o os c le) ∙ is) q.1
    ]

-- a pointer starts as null
starts_null : (p : Resolved) (c : ℕ) → IsChecked p → main_variable p c ≡ Some true → get_or (first_words p) c 0 ≡ 0
starts_null p c h e = first_word (λ a. a ≡ 0) refl p.objects (length p.main.locals) c (λ x is.
    let kind = sym (main_of_file p c (element_within p.objects c x is) ∙ ap (λ (o : Option (RObject × ℕ)). option_and_then (λ y. variable_kind (y.0).kind) o) is) ∙ e in
    pointer_first (x.0).kind (x.0).first (element_in p.objects c x is h.firsts) kind)

pub first_agrees : (p : Resolved) (g : effects.Graph) (input : List ℕ) → IsChecked p → AgreeAt p g (outside (at_entry (graphs_of p)).node) (at_entry (graphs_of p)) (first_state p input) (first_state p input)
first_agrees p g input h = record {
  calls = tt;
  outside = (refl, refl);
  alike = record { rest = refl; objects = refl; size = first_long p; same_size = first_long p; words = λ c y. refl };
  pointers = record { cells = λ c y m. subst (λ a. IsKept p (var.Cell c) a) (sym (starts_null p c h m)) (zero_kept p (var.Cell c)); locals = tt };
  frames = tt;
}
