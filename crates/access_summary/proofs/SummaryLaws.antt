-- The sets that the solver finds are the cells that functions may access.
use Rattle.std.proofs.Common.{◌≡◌, ℕ, ◌+◌, ◌<◌, ◌↔◌, true, false, List, [], ◌∷◌, ◌++◌, length, slice_get, get_or, refl, sym, ap, subst, ◌∙◌, arith, inl, inr, length-append}
use Rattle.std.proofs.Math.ListN.{get_or-append}
use Rattle.std.proofs.Math.Seq.{get_or-append_seam}
use Rattle.std.proofs.lemmas.Bool.{cases_eq, cases_lt}
use Rattle.std.proofs.lemmas.List.{get_or_past}
use Rattle.std.proofs.lemmas.Option.{none-some}
use Rattle.cell_sets.specs.Sets.{Cells, universe_of, has}
use Rattle.path_laws.specs.Reaching.{joins, in_row, AllWide, IsPath, Until, Reaches}
use Rattle.c_tree.specs.declared.resolved.RFunction.{RFunction}
use Rattle.c_tree.specs.declared.resolved.Resolved.{Resolved}
use Rattle.c_tree.specs.Layout.{cell_count}
use Rattle.access_summary.specs.declared.effects.Effect.{Effect}
use Rattle.access_summary.specs.declared.touch.Access.{Access}
use Rattle.access_summary.specs.Touch.{Touches}
use Rattle.access_summary.specs.Summaries.{bodies_from, bodies, body_of, IsCallChain, ReachesAccess, AreSets}
use Rattle.access_summary.specs.CallEdges.{AreCalls, AreReached}
use Rattle.access_summary.proofs.CallLaws.{calls_within}

-- ---- one set more

pub sets_step : (cells i : ℕ) (P : ℕ → ℕ → Type 0) (old new : List Cells) (row : Cells) → AreSets cells i P old → new ≡ old ++ row ∷ [] → universe_of row ≡ cells → ((c : ℕ) → c < cells → (has row c ≡ true) ↔ P i c) → AreSets cells (i + 1) P new
sets_step cells i P old new row h e wide exact =
    let long = ap (λ xs. length xs) e ∙ length-append old (row ∷ []) in
    let len = h.len in record {
      len = omega arith;
      wide = λ n l. elim (cases_eq n i) [
        | inl at ↦ let end : n ≡ length old = omega arith in ap (λ r. length r) (ap (λ xs. get_or xs n []) e ∙ ap (λ j. get_or (old ++ row ∷ []) j []) end ∙ get_or-append_seam old row [] []) ∙ wide
        | inr other ↦ let inside : n < length old = omega arith in ap (λ r. length r) (ap (λ xs. get_or xs n []) e ∙ get_or-append old (row ∷ []) [] n inside) ∙ h.wide n inside
      ];
      exact = λ f c lf lc. elim (cases_eq f i) [
        | inl at ↦
            let end : f ≡ length old = omega arith in
            let here = ap (λ xs. get_or xs f []) e ∙ ap (λ j. get_or (old ++ row ∷ []) j []) end ∙ get_or-append_seam old row [] [] in
            let both = exact c lc in ((λ x. subst (λ k. P k c) (sym at) (both.0 (ap (λ r. has r c) (sym here) ∙ x))), (λ y. ap (λ r. has r c) here ∙ both.1 (subst (λ k. P k c) at y)))
        | inr other ↦
            let inside : f < length old = omega arith in
            let here = ap (λ xs. get_or xs f []) e ∙ get_or-append old (row ∷ []) [] f inside in
            let both = h.exact f c (omega arith) lc in ((λ x. both.0 (ap (λ r. has r c) (sym here) ∙ x)), (λ y. ap (λ r. has r c) here ∙ both.1 y))
      ];
    }

pub sets_end : (cells i n : ℕ) (P : ℕ → ℕ → Type 0) (sets : List Cells) → i ≡ n → AreSets cells i P sets → AreSets cells n P sets
sets_end cells i n P sets e h = subst (λ k. AreSets cells k P sets) e h

-- ---- chains of calls and paths

-- only a function has effects
touches_within : (p : Resolved) (a : Access) (bs : List (List Effect)) (g c : ℕ) → Touches p a (body_of bs g) c → g < length bs
touches_within p a bs g c t = elim (cases_lt g (length bs)) [ inl l ↦ l | inr past ↦ absurd (none-some t.1 (ap (λ es. slice_get es t.0) (sym (get_or_past bs g [] past)) ∙ t.2)) ]

starts_within : (bs : List (List Effect)) (f : ℕ) (w : List ℕ) (g : ℕ) → IsCallChain bs f w g → g < length bs → f < length bs
starts_within bs f [] g e l = subst (λ k. k < length bs) (sym e) l
starts_within bs f (h ∷ w) g ch l = calls_within bs f h ch.0

module _ (bs : List (List Effect)) (edges : List (ℕ × ℕ)) (goals stops : List Cells) (calls : AreCalls bs edges) (c : ℕ) where
  chain_of_path : (f : ℕ) (w : List ℕ) → f < length bs → IsPath (joins edges) f w → Until (λ k. in_row goals k c) (λ k. in_row stops k c) f w → (g : ℕ) × (v : List ℕ) × IsCallChain bs f v g × (g < length bs) × (in_row goals g c ≡ true)
  chain_of_path f [] l p u = (f, [], refl, l, u)
  chain_of_path f (m ∷ w) l p u = let e = calls.only f m p.0 in let r = chain_of_path m w e.1 p.1 u.1 in (r.0, m ∷ r.1, (e.2, r.2), r.3, r.4)

  path_of_chain : ((n q : ℕ) → in_row stops n q ≡ false) → (f : ℕ) (w : List ℕ) (g : ℕ) → g < length bs → IsCallChain bs f w g → in_row goals g c ≡ true → Reaches (joins edges) (λ k. in_row goals k c) (λ k. in_row stops k c) f
  path_of_chain free f [] g l e goal = ([], (tt, ap (λ k. in_row goals k c) e ∙ goal))
  path_of_chain free f (h ∷ w) g l ch goal =
      let rest = path_of_chain free h w g l ch.1 goal in
      (h ∷ rest.0, ((calls.added f h (calls_within bs f h ch.0, starts_within bs h w g ch.1 l, ch.0), rest.1.0), (free f c, rest.1.1)))

-- the sets are exactly what the functions reach
pub accesses_exact : (p : Resolved) (a : Access) (cells : ℕ) (bs : List (List Effect)) (edges : List (ℕ × ℕ)) (goals sets : List Cells) → AreCalls bs edges → AreSets cells (length bs) (λ f c. Touches p a (body_of bs f) c) goals →
    AreReached edges goals sets → AllWide cells sets → AreSets cells (length bs) (ReachesAccess p bs a) sets
accesses_exact p a cells bs edges goals sets calls own reached wide =
    let s = reached.solution in
    let same = own.len in record {
      len = s.rows_len ∙ same;
      wide = wide;
      exact = λ f c lf lc. (
        (λ x. let r = s.sound f c x in let g = chain_of_path bs edges goals reached.stops calls c f r.0 lf r.1.0 r.1.1 in (g.0, g.1, g.2, (own.exact g.0 c g.3 lc).0 g.4)),
        (λ y. let l = touches_within p a bs y.0 c y.3 in s.complete f c (omega arith) (path_of_chain bs edges goals reached.stops calls c reached.free f y.1 y.0 l y.2 ((own.exact y.0 c l lc).1 y.3))),
      );
    }

-- ---- the program's functions

length-bodies : (f : ℕ) (gs : List RFunction) → length (bodies_from f gs) ≡ length gs
length-bodies f [] = refl
length-bodies f (g ∷ gs) = let k = length-bodies (f + 1) gs in omega arith

pub of_program : (p : Resolved) (a : Access) (bs : List (List Effect)) (sets : List Cells) → bs ≡ bodies p → AreSets (cell_count p) (length bs) (ReachesAccess p bs a) sets → AreSets (cell_count p) (length p.functions) (ReachesAccess p (bodies p) a) sets
of_program p a bs sets e h =
    subst (λ n. AreSets (cell_count p) n (ReachesAccess p (bodies p) a) sets) (length-bodies 0 p.functions) (subst (λ xs. AreSets (cell_count p) (length xs) (ReachesAccess p xs a) sets) e h)
