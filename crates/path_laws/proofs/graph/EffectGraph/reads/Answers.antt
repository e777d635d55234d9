use Rattle.std.proofs.Common.{length, ap, ◌∙◌, arith}
use Rattle.path_laws.specs.Graph.{Graph}
use Rattle.path_laws.proofs.GraphLaws.{reads_universe}
use Rattle.path_laws.proofs.graph.EffectGraph.reads.Goals as goal

pub returns-clause-universe : goal.returns-clause-universe
returns-clause-universe c =
    reads_universe c.self.inside.cells c.self.inside.list.items c.args.n c.index.result.now c.self.invariant.universes (omega (arith, c.requires.node, ap (λ (g : Graph). length g.nodes) c.self.view_is)) c.index.ensures
    ∙ ap (λ (g : Graph). g.cells) c.self.view_is
