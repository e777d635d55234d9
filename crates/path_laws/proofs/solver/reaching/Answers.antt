use Rattle.std.proofs.Common.{rules, ℕ, ◌≡◌, ◌∙◌, ◌+◌, true, arith, List, [], get_or, drop, sym, subst}
use Rattle.std.proofs.lemmas.List.{get_or_read}
use Rattle.path_laws.specs.Reaching.{joins}
use Rattle.path_laws.specs.Solving.{IsPartial, Never}
use Rattle.path_laws.proofs.GraphLaws.{drop_next}
use Rattle.path_laws.proofs.WorkLaws.{taken, taken_in, seen, done, listed_at, lists_edges}
use Rattle.path_laws.proofs.solver.reaching.Goals as goal

pub index-requires : goal.index-requires
index-requires c =
    let l = taken_in _ _ _ _ c.work.work.items _ _ c.in-Some.ensures.items c.work.invariant.partial in
    omega (arith, l, c.in_ok-before.ensures.len, c.in_ok-before.before.ok.0)

pub edges-init : goal.edges-init
edges-init c =
    let l = taken_in _ _ _ _ c.work.work.items _ _ c.in-Some.ensures.items c.work.invariant.partial in
    let read = get_or_read c.in_ok-before.before.items c.in-Some.m c.index.result.now (omega (arith, l, c.in_ok-before.ensures.len)) c.index.ensures [] in
    let into = lists_edges (joins c.args.edges.now) c.in_ok-before.before.items c.in-Some.m c.as_slice-n-items.result.now c.index.result.now c.as_slice-n-items.ensures.answer read c.in_ok-before.ensures.answer in
    record {
      partial = taken _ _ _ _ c.work.work.items _ _ _ c.in-Some.ensures.items (λ k e. into k ∙ e) c.work.invariant.partial;
      wide = c.work.invariant.wide;
      falls = omega arith;
      m_in = l;
    }

pub visit-requires-clause-n_in : goal.visit-requires-clause-n_in
visit-requires-clause-n_in c =
    let read = get_or_read c.in_ok-before.before.items c.in-Some.m c.index.result.now (omega (arith, c.edges.invariant.m_in, c.in_ok-before.ensures.len)) c.index.ensures [] in
    let into = lists_edges (joins c.args.edges.now) c.in_ok-before.before.items c.in-Some.m c.as_slice-n-items.result.now c.index.result.now c.as_slice-n-items.ensures.answer read c.in_ok-before.ensures.answer in
    let n = get_or c.as_slice-n-items.result.now c.edges.n-index 0 in
    let e : joins c.args.edges.now n c.in-Some.m ≡ true = sym (into n) ∙ listed_at c.as_slice-n-items.result.now c.edges.n-index 0 (omega arith) in
    omega (arith, (c.requires.within n c.in-Some.m e).0, c.edges.invariant.partial.rows_len, c.edges.rows.ok.0)

pub edges-preserved : goal.edges-preserved
edges-preserved c =
    let read = get_or_read c.in_ok-before.before.items c.in-Some.m c.index.result.now (omega (arith, c.edges.invariant.m_in, c.in_ok-before.ensures.len)) c.index.ensures [] in
    let into = lists_edges (joins c.args.edges.now) c.in_ok-before.before.items c.in-Some.m c.as_slice-n-items.result.now c.index.result.now c.as_slice-n-items.ensures.answer read c.in_ok-before.ensures.answer in
    let n = get_or c.as_slice-n-items.result.now c.edges.n-index 0 in
    let e : joins c.args.edges.now n c.in-Some.m ≡ true = sym (into n) ∙ listed_at c.as_slice-n-items.result.now c.edges.n-index 0 (omega arith) in
    let s = c.in_ok-visit.ensures.step in
    record {
      partial = seen (joins c.args.edges.now) c.args.goals.now c.args.stops.now c.edges.rows.items c.edges.work.items c.visit.new.rows.items c.visit.new.work.items
          (drop c.edges.n-index c.as_slice-n-items.result.now) (drop (c.edges.n-index + 1) c.as_slice-n-items.result.now) n c.in-Some.m c.args.width
          (drop_next c.as_slice-n-items.result.now c.edges.n-index (omega arith)) e (c.requires.within n c.in-Some.m e).0 s c.edges.invariant.partial;
      wide = s.wide;
      falls = let f = s.falls in omega (arith, f, c.edges.invariant.falls);
      m_in = c.edges.invariant.m_in;
    }

pub returns-clause-exact : goal.returns-clause-exact
returns-clause-exact c =
    let empty : c.work.work.items ≡ [] = search (rules, c.in_default.ensures.cases) in
    done (joins c.args.edges.now) c.args.goals.now c.args.stops.now c.work.rows.items
    (subst (λ (w : List ℕ). IsPartial (joins c.args.edges.now) c.args.goals.now c.args.stops.now c.work.rows.items w Never) empty c.work.invariant.partial)
