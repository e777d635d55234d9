use Rattle.std.proofs.Common.{◌≡◌, ap, ◌∙◌}
use Rattle.c_tree.specs.declared.resolved.Resolved.{Resolved}
use Rattle.access_summary.specs.declared.touch.Access.TheVariants as access'
use Rattle.access_summary.specs.Summaries.{bodies, bodies_from}
use Rattle.access_summary.proofs.SummaryLaws.{of_program}
use Rattle.access_summary.proofs.summaries.find_summaries.Goals as goal

pub returns : goal.returns
returns c =
    let found : c.in_ok-bodies.bodies ≡ bodies c.args.program.now = c.in_ok-bodies.ensures.answer ∙ ap (bodies_from 0) (c.as_slice.ensures ∙ ap (λ (p : Resolved). p.functions) c.tree.ensures.answer) in record {
      answer = record {
        reads = of_program c.args.program.now access'.Read c.as_slice-3.result.now c.in_ok-reads.reads.items (c.as_slice-3.ensures ∙ found) c.in_ok-reads.ensures.answer;
        writes = of_program c.args.program.now access'.Write c.as_slice-4.result.now c.in_ok-writes.writes.items (c.as_slice-4.ensures ∙ found) c.in_ok-writes.ensures.answer;
      };
    }
