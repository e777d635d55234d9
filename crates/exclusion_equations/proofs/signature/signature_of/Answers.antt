use Rattle.std.proofs.Common.{◌∙◌, ap, arith}
use Rattle.cell_sets.specs.Sets.{has}
use Rattle.path_laws.specs.Graph.{may_read, may_write, kills}
use Rattle.exclusion_equations.proofs.RowLaws.{tested_more, tested_all}
use Rattle.exclusion_equations.proofs.ClassLaws.{no_read, no_write, no_kill}
use Rattle.exclusion_equations.proofs.signature.signature_of.Goals as goal

pub nodes-preserved : goal.nodes-preserved
nodes-preserved c =
    let g = c.args.graph.now in
    let i = c.nodes.invariant in
    record {
      reads_wide = c.set_if.ensures.universe ∙ i.reads_wide;
      writes_wide = c.set_if-in-nodes.ensures.universe ∙ i.writes_wide;
      kills_wide = c.set_if-in-nodes-2.ensures.universe ∙ i.kills_wide;
      reads_so_far = tested_more (λ q. may_read g q c.args.c) (has c.nodes.reading) (has c.set_if.new.row) c.nodes.n c.holds.result (c.holds.ensures.answer ∙ ap (λ r. has r c.args.c) c.reads.ensures.answer) i.reads_so_far c.set_if.ensures.answer;
      writes_so_far = tested_more (λ q. may_write g q c.args.c) (has c.nodes.writing) (has c.set_if-in-nodes.new.row) c.nodes.n c.holds-in-nodes.result (c.holds-in-nodes.ensures.answer ∙ ap (λ r. has r c.args.c) c.writes.ensures.answer) i.writes_so_far
          c.set_if-in-nodes.ensures.answer;
      kills_so_far = tested_more (λ q. kills g q c.args.c) (has c.nodes.killing) (has c.set_if-in-nodes-2.new.row) c.nodes.n c.holds-in-nodes-2.result (c.holds-in-nodes-2.ensures.answer ∙ ap (λ r. has r c.args.c) c.kills.ensures.answer) i.kills_so_far
          c.set_if-in-nodes-2.ensures.answer;
    }

pub returns-clause-answer : goal.returns-clause-answer
returns-clause-answer c =
    let g = c.args.graph.now in
    let i = c.nodes.invariant in
    record {
      reads = tested_all (λ q. may_read g q c.args.c) (has c.nodes.reading) c.nodes.n (λ q l. no_read g q c.args.c (omega (arith, l, c.nodes-n-end.ensures.answer))) i.reads_so_far;
      writes = tested_all (λ q. may_write g q c.args.c) (has c.nodes.writing) c.nodes.n (λ q l. no_write g q c.args.c (omega (arith, l, c.nodes-n-end.ensures.answer))) i.writes_so_far;
      kills = tested_all (λ q. kills g q c.args.c) (has c.nodes.killing) c.nodes.n (λ q l. no_kill g q c.args.c (omega (arith, l, c.nodes-n-end.ensures.answer))) i.kills_so_far;
    }
