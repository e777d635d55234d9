use Rattle.std.proofs.Common.{◌+◌, ◌∙◌, sym, arith, inl, inr}
use Rattle.std.proofs.lemmas.Bool.{cases_lt}
use Rattle.path_laws.specs.Graph.{reads_of, writes_of, kills_of}
use Rattle.exclusion_equations.proofs.ClassLaws.{border_more, no_read, no_write, no_kill}
use Rattle.exclusion_equations.proofs.borders.borders.Goals as goal

pub nodes-preserved : goal.nodes-preserved
nodes-preserved c =
    let a = c.in_ok-mark.ensures.answer in
    let b = c.in_ok-mark-2.ensures.answer in
    let d = c.in_ok-mark-3.ensures.answer in
    let i = c.nodes.invariant in
    let g = c.args.graph.now in
    record {
      universe = d.universe ∙ (b.universe ∙ (a.universe ∙ i.universe));
      reads = λ m q lm lq off. border_more (reads_of g) c.reads.result.now c.nodes.n g.cells m q c.reads.ensures.answer c.reads.ensures.universe lm lq
          (λ old. i.reads m q old lq (a.kept (q + 1) (b.kept (q + 1) (d.kept (q + 1) off)))) (λ l. a.borders q l (b.kept (q + 1) (d.kept (q + 1) off)));
      writes = λ m q lm lq off. border_more (writes_of g) c.writes.result.now c.nodes.n g.cells m q c.writes.ensures.answer c.writes.ensures.universe lm lq
          (λ old. i.writes m q old lq (a.kept (q + 1) (b.kept (q + 1) (d.kept (q + 1) off)))) (λ l. b.borders q l (d.kept (q + 1) off));
      kills = λ m q lm lq off. border_more (kills_of g) c.kills.result.now c.nodes.n g.cells m q c.kills.ensures.answer c.kills.ensures.universe lm lq
          (λ old. i.kills m q old lq (a.kept (q + 1) (b.kept (q + 1) (d.kept (q + 1) off)))) (λ l. d.borders q l off);
    }

pub returns-clause-answer : goal.returns-clause-answer
returns-clause-answer c = λ q lq off.
    let g = c.args.graph.now in
    let i = c.nodes.invariant in
    record {
      reads = λ m. elim (cases_lt m c.nodes.n) [ inl l ↦ i.reads m q l lq off | inr l ↦ no_read g m q (omega (arith, c.nodes-n-end.ensures.answer)) ∙ sym (no_read g m (q + 1) (omega (arith, c.nodes-n-end.ensures.answer))) ];
      writes = λ m. elim (cases_lt m c.nodes.n) [ inl l ↦ i.writes m q l lq off | inr l ↦ no_write g m q (omega (arith, c.nodes-n-end.ensures.answer)) ∙ sym (no_write g m (q + 1) (omega (arith, c.nodes-n-end.ensures.answer))) ];
      kills = λ m. elim (cases_lt m c.nodes.n) [ inl l ↦ i.kills m q l lq off | inr l ↦ no_kill g m q (omega (arith, c.nodes-n-end.ensures.answer)) ∙ sym (no_kill g m (q + 1) (omega (arith, c.nodes-n-end.ensures.answer))) ];
    }
