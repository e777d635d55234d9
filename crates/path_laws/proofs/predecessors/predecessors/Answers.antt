use Rattle.std.proofs.Common.{arith}
use Rattle.path_laws.proofs.GraphLaws.{joins_at}
use Rattle.path_laws.proofs.predecessors.predecessors.Goals as goal

pub note-requires : goal.note-requires
note-requires c =
    let l = c.requires.within _ _ (joins_at c.args.edges.now c.edges.edge-index (0, 0) (omega arith)) in
    record { node = omega (arith, l, c.edges.invariant.len, c.edges.lists.ok.0) }
