-- From what the solver says to walks of the graph.
use Rattle.std.proofs.Common.{ℕ, ◌<◌, ◌≡◌, Bool, true, ◌||◌, List, [], ◌∷◌, length, arith, sym, ◌∙◌, refl, inl, inr, Option, Some, None}
use Rattle.std.proofs.lemmas.Bool.{false≢true, or_cases, or_left, or_right, eq-eqb, eqb-true}
use Rattle.cell_sets.specs.Sets.{Cells}
use Rattle.path_laws.specs.Edge.{is_at}
use Rattle.path_laws.specs.Graph.{Graph, has_edge, next_of, IsWhole}
use Rattle.path_laws.specs.Walks.{IsWalkFrom, last_of}
use Rattle.path_laws.specs.Reaching.{joins, IsPath, Until, in_row, AllWide, IsSolution}
use Rattle.path_laws.proofs.GraphLaws.{edge_from}
use Rattle.path_laws.proofs.RowLaws.{row_in}
use Rattle.exclusion_equations.specs.Rows.{AreRows, AreReached, next_has, after}

pub path_of_walk : (g : Graph) (n : ℕ) (w : List ℕ) → IsWalkFrom g n w → IsPath (has_edge g) n w
path_of_walk g n [] h = tt
path_of_walk g n (m ∷ w) h = (h.0, path_of_walk g m w h.1)

pub walk_of_path : (g : Graph) → IsWhole g → (n : ℕ) (w : List ℕ) → n < length g.nodes → IsPath (has_edge g) n w → IsWalkFrom g n w
walk_of_path g j n [] l h = l
walk_of_path g j n (m ∷ w) l h = (h.0, walk_of_path g j m w (j.edges n m h.0) h.1)

pub last_in : (g : Graph) (m : ℕ) (w : List ℕ) → IsWalkFrom g m w → last_of m w < length g.nodes
last_in g m [] h = h
last_in g m (p ∷ w) h = last_in g p w h.1

-- the same walk for tests that are equal
pub until_same : (goal stop goal' stop' : ℕ → Bool) → ((k : ℕ) → goal k ≡ goal' k) → ((k : ℕ) → stop k ≡ stop' k) → (n : ℕ) (w : List ℕ) → Until goal stop n w → Until goal' stop' n w
until_same goal stop goal' stop' e f n [] h = sym (e n) ∙ h
until_same goal stop goal' stop' e f n (m ∷ w) h = (sym (f n) ∙ h.0, until_same goal stop goal' stop' e f m w h.1)

path_same : (edge edge' : ℕ → ℕ → Bool) → ((n m : ℕ) → edge n m ≡ edge' n m) → (n : ℕ) (w : List ℕ) → IsPath edge n w → IsPath edge' n w
path_same edge edge' e n [] h = tt
path_same edge edge' e n (m ∷ w) h = (sym (e n m) ∙ h.0, path_same edge edge' e m w h.1)

-- tests that are equal at the nodes of the graph
until_in : (g : Graph) → IsWhole g → (goal stop goal' stop' : ℕ → Bool) → ((k : ℕ) → k < length g.nodes → goal k ≡ goal' k) → ((k : ℕ) → k < length g.nodes → stop k ≡ stop' k) →
    (n : ℕ) (w : List ℕ) → n < length g.nodes → IsPath (has_edge g) n w → Until goal stop n w → Until goal' stop' n w
until_in g j goal stop goal' stop' e f n [] l p h = sym (e n l) ∙ h
until_in g j goal stop goal' stop' e f n (m ∷ w) l p h = (sym (f n l) ∙ h.0, until_in g j goal stop goal' stop' e f m w (j.edges n m p.0) p.1 h.1)

-- what the solver says of goal and stop rows, said of the tests that the rows stand for
pub reached : (g : Graph) (es : List (ℕ × ℕ)) (width : ℕ) (goal stop : ℕ → ℕ → Bool) (goals stops rows : List Cells) → IsWhole g → ((n m : ℕ) → joins es n m ≡ has_edge g n m) →
    AreRows width (length g.nodes) goal goals → AreRows width (length g.nodes) stop stops → IsSolution (joins es) goals stops rows → AllWide width rows → AreReached g width goal stop rows
reached g es width goal stop goals stops rows j e hg hs h wide = record {
  rows_len = h.rows_len ∙ hg.rows_len;
  wide = wide;
  sound = λ n k l x.
      let ln : n < length g.nodes = (let r = row_in rows n k x in omega (arith, r, h.rows_len, hg.rows_len)) in
      let r = h.sound n k x in
      let p = path_same (joins es) (has_edge g) e n r.0 r.1.0 in
      (r.0, (p, until_in g j _ _ _ _ (λ m lm. hg.each m k lm l) (λ m lm. hs.each m k lm l) n r.0 ln p r.1.1));
  complete = λ n k l ln r.
      h.complete n k (omega (arith, hg.rows_len)) (
        r.0,
        (
          path_same (has_edge g) (joins es) (λ n m. sym (e n m)) n r.0 r.1.0,
          until_in g j _ _ _ _ (λ m lm. sym (hg.each m k lm l)) (λ m lm. sym (hs.each m k lm l)) n r.0 ln r.1.0 r.1.1,
        ),
      );
}

-- each edge is within the rows
pub joined_in : (g : Graph) (es : List (ℕ × ℕ)) (count : ℕ) → IsWhole g → ((n m : ℕ) → joins es n m ≡ has_edge g n m) → count ≡ length g.nodes → (n m : ℕ) → joins es n m ≡ true → (n < count) × (m < count)
joined_in g es count j e l n m h =
    let x = sym (e n m) ∙ h in
    let a = edge_from g n m x in
    let b = j.edges n m x in
    (omega arith, omega arith)

-- what some node after n has
pub after_from : (g : Graph) (rows : List Cells) (n k : ℕ) → after g rows n k ≡ true → (m : ℕ) × (has_edge g n m ≡ true) × (in_row rows m k ≡ true)
after_from g rows n k h = pick (next_of g n) h
  where
    one : (o : Option ℕ) → next_has rows o k ≡ true → (m : ℕ) × ((is_at o m ≡ true) × (in_row rows m k ≡ true))
    one None x = absurd (false≢true x)
    one (Some m) x = (m, (eq-eqb m m refl, x))

    pick : (e : Option ℕ × Option ℕ) → (next_has rows e.0 k || next_has rows e.1 k) ≡ true → (m : ℕ) × ((is_at e.0 m || is_at e.1 m) ≡ true) × (in_row rows m k ≡ true)
    pick e x = elim (or_cases (next_has rows e.0 k) (next_has rows e.1 k) x) [
      | inl a ↦ let r = one e.0 a in (r.0, or_left (is_at e.0 r.0) (is_at e.1 r.0) r.1.0, r.1.1)
      | inr b ↦ let r = one e.1 b in (r.0, or_right (is_at e.0 r.0) (is_at e.1 r.0) r.1.0, r.1.1)
    ]

pub from_after : (g : Graph) (rows : List Cells) (n k m : ℕ) → has_edge g n m ≡ true → in_row rows m k ≡ true → after g rows n k ≡ true
from_after g rows n k m h x = put (next_of g n) h
  where
    one : (o : Option ℕ) → is_at o m ≡ true → next_has rows o k ≡ true
    one None y = absurd (false≢true y)
    one (Some j) y = (λ i. in_row rows (eqb-true j m y i) k) ∙ x

    put : (e : Option ℕ × Option ℕ) → (is_at e.0 m || is_at e.1 m) ≡ true → (next_has rows e.0 k || next_has rows e.1 k) ≡ true
    put e y = elim (or_cases (is_at e.0 m) (is_at e.1 m) y) [
      | inl a ↦ or_left (next_has rows e.0 k) (next_has rows e.1 k) (one e.0 a)
      | inr b ↦ or_right (next_has rows e.0 k) (next_has rows e.1 k) (one e.1 b)
    ]
