use Rattle.std.proofs.Common.{◌∷◌, [], length, length-append, sym, ap, ◌∙◌, subst, arith}
use Rattle.path_laws.specs.declared.graph.Node.{Node}
use Rattle.path_laws.specs.Graph.{Graph, AllHaveUniverse}
use Rattle.path_laws.proofs.GraphLaws.{AllHaveUniverse-push}
use Rattle.path_laws.proofs.graph.EffectGraph.add.Goals as goal

pub invariant_of-self-2 : goal.invariant_of-self-2
invariant_of-self-2 c =
    let d : Node = record { next = c.args.next; mark = c.args.mark; reads = c.args.reads; writes = c.args.writes; kills = c.args.kills } in
    let pushed = c.in_ok-append.ensures.answer in
    let cells = ap (λ (g : Graph). g.cells) (sym c.self.view_is) in
    record {
      universes = subst (AllHaveUniverse c.self.inside.cells) (sym pushed)
          (AllHaveUniverse-push c.self.inside.cells c.self.inside.list.items d c.self.invariant.universes
          (record { reads = c.requires.reads ∙ cells; writes = c.requires.writes ∙ cells; kills = c.requires.kills ∙ cells }));
      small = omega (arith, ap length pushed, length-append c.self.inside.list.items (d ∷ []), c.requires.room, ap (λ (g : Graph). length g.nodes) c.self.view_is);
    }
