use Rattle.std.proofs.Common.{ℕ, List, Option, subst}
use Rattle.exclusion_reason.specs.declared.aim.Aim.TheVariants.{Need}
use Rattle.exclusion_reason.specs.Least.{IsLeastIfAny}
use Rattle.exclusion_reason.specs.Ways.{IsWay}
use Rattle.exclusion_reason.proofs.WayLaws.{dead_without, need_least}
use Rattle.exclusion_reason.proofs.reason.need_walk.Goals as goal

pub unreachable-requires : goal.unreachable-requires
unreachable-requires c =
    let none = subst (λ (x : Option (List ℕ)). IsLeastIfAny (IsWay c.args.graph.now (Need c.args.c) c.node_of.result) x) c.in-None.is c.in_ok-walk.ensures.least in
    c.requires.wanted (dead_without c.args.graph.now c.args.k c.args.c c.node_of.result c.requires.whole c.node_of.ensures.node c.node_of.ensures.answer none)

pub returns : goal.returns
returns c = record {
  least = need_least c.args.graph.now c.args.k c.args.c c.node_of.result c.requires.whole c.node_of.ensures.node c.node_of.ensures.answer c.in-Some.walk
      (subst (λ (x : Option (List ℕ)). IsLeastIfAny (IsWay c.args.graph.now (Need c.args.c) c.node_of.result) x) c.in-Some.is c.in_ok-walk.ensures.least);
}
