-- Nodes, edges and walks of a graph.
use Rattle.std.proofs.Common.{ℕ, ◌+◌, ◌<◌, ◌≡◌, true, ◌&&◌, ◌||◌, List, [], ◌∷◌, ◌++◌, length, Option, Some, get_or, drop, arith, add-one, subst, sym, ap, ◌∙◌, refl, eqb, inl, inr, zero, suc, None}
use Rattle.std.proofs.Math.Seq.{drop-cons}
use Rattle.std.proofs.lemmas.Bool.{false≢true, cases_lt, eq-eqb, or_left, or_right, and_from, eqb-true}
use Rattle.std.proofs.lemmas.Option.{slice_get_past}
use Rattle.std.specs.Option.{option_map_or}
use Rattle.path_laws.specs.declared.graph.Node.{Node}
use Rattle.path_laws.specs.Edge.{is_at}
use Rattle.path_laws.specs.declared.graph.Mark.{Mark}
use Rattle.path_laws.specs.declared.graph.Mark.TheVariants.{Exclude}
use Rattle.path_laws.specs.Graph.{mark_is_directive, Graph, has_edge, HasUniverse, AllHaveUniverse}
use Rattle.path_laws.specs.Reaching.{joins}

-- the sets of a node that was read have the universe
universe_at : (cells : ℕ) (ds : List Node) (n : ℕ) (d : Node) → AllHaveUniverse cells ds → n < length ds → d ≡ get_or ds n d → HasUniverse cells d
universe_at cells [] n d h l e = absurd (omega arith)
universe_at cells (x ∷ ds) zero d h l e = subst (HasUniverse cells) (sym e) h.0
universe_at cells (x ∷ ds) (suc n) d h l e = universe_at cells ds n d h.1 (omega arith) e

pub reads_universe : (cells : ℕ) (ds : List Node) (n : ℕ) (d : Node) → AllHaveUniverse cells ds → n < length ds → d ≡ get_or ds n d → length d.reads ≡ cells
reads_universe cells ds n d h l e = (universe_at cells ds n d h l e).reads

pub writes_universe : (cells : ℕ) (ds : List Node) (n : ℕ) (d : Node) → AllHaveUniverse cells ds → n < length ds → d ≡ get_or ds n d → length d.writes ≡ cells
writes_universe cells ds n d h l e = (universe_at cells ds n d h l e).writes

pub kills_universe : (cells : ℕ) (ds : List Node) (n : ℕ) (d : Node) → AllHaveUniverse cells ds → n < length ds → d ≡ get_or ds n d → length d.kills ≡ cells
kills_universe cells ds n d h l e = (universe_at cells ds n d h l e).kills

pub AllHaveUniverse-push : (cells : ℕ) (ds : List Node) (d : Node) → AllHaveUniverse cells ds → HasUniverse cells d → AllHaveUniverse cells (ds ++ d ∷ [])
AllHaveUniverse-push cells [] d h u = (u, tt)
AllHaveUniverse-push cells (x ∷ ds) d h u = (h.0, AllHaveUniverse-push cells ds d h.1 u)

-- only a node has edges
pub edge_from : (g : Graph) (n m : ℕ) → has_edge g n m ≡ true → n < length g.nodes
edge_from g n m h =
    elim (cases_lt n (length g.nodes)) [
      | inl l ↦ l
      | inr l ↦ absurd (false≢true ((λ i. is_at (option_map_or (λ (d : Node). d.next) (sym (slice_get_past g.nodes n l) i) (None, None)).0 m || is_at (option_map_or (λ (d : Node). d.next) (sym (slice_get_past g.nodes n l) i) (None, None)).1 m) ∙ h))
    ]

-- the next number of the list
pub drop_next : (list : List ℕ) (i : ℕ) → i < length list → drop i list ≡ get_or list i 0 ∷ drop (i + 1) list
drop_next list i l = drop-cons list i 0 l ∙ ap (λ j. get_or list i 0 ∷ drop j list) (sym (add-one i))

-- an edge of the list is there
pub joins_at : (es : List (ℕ × ℕ)) (i : ℕ) (d : ℕ × ℕ) → i < length es → joins es (get_or es i d).0 (get_or es i d).1 ≡ true
joins_at [] i d l = absurd (omega arith)
joins_at (e ∷ es) zero d l = or_left (eqb e.0 e.0 && eqb e.1 e.1) (joins es e.0 e.1) (and_from _ _ (eq-eqb e.0 e.0 refl) (eq-eqb e.1 e.1 refl))
joins_at (e ∷ es) (suc i) d l =
    let r = get_or es i d in or_right (eqb e.0 r.0 && eqb e.1 r.1) (joins es r.0 r.1) (joins_at es i d (omega arith))

-- the one node that an edge goes to
pub edge_to : (next : Option ℕ) (k m : ℕ) → next ≡ Some k → is_at next m ≡ true → k ≡ m
edge_to next k m e h = eqb-true k m (ap (λ o. is_at o m) (sym e) ∙ h)

pub edge_at : (next : Option ℕ) (k : ℕ) → next ≡ Some k → is_at next k ≡ true
edge_at next k e = ap (λ o. is_at o k) e ∙ eq-eqb k k refl

-- the one number of an EXCLUDE_HERE
pub directive_is : (mark : Mark) (k j : ℕ) → mark ≡ Exclude k → mark_is_directive j mark ≡ true → k ≡ j
directive_is mark k j e h = eqb-true k j (ap (mark_is_directive j) (sym e) ∙ h)

pub directive_at : (mark : Mark) (k : ℕ) → mark ≡ Exclude k → mark_is_directive k mark ≡ true
directive_at mark k e = ap (mark_is_directive k) e ∙ eq-eqb k k refl
