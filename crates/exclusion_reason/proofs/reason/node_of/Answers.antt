use Rattle.std.proofs.Common.{◌∙◌, sym, arith}
use Rattle.std.proofs.lemmas.Bool.{false≢true}
use Rattle.exclusion_reason.proofs.WayLaws.{directive_in}
use Rattle.exclusion_reason.proofs.reason.node_of.Goals as goal

pub unreachable-requires : goal.unreachable-requires
unreachable-requires c =
    let s = c.requires.whole.nodes c.args.k c.requires.first c.requires.last in
    let l = directive_in c.args.graph.now c.args.k s.0 s.1 in
    false≢true (sym (c.nodes.invariant s.0 (omega (arith, l))) ∙ s.1)
