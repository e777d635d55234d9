use Rattle.std.proofs.Common.{ℕ, List, Option, subst}
use Rattle.exclusion_reason.specs.declared.aim.Aim.TheVariants.{Write}
use Rattle.exclusion_reason.specs.Least.{IsLeastIfAny}
use Rattle.exclusion_reason.specs.Ways.{IsWay}
use Rattle.exclusion_reason.proofs.WayLaws.{read_only_without, write_least}
use Rattle.exclusion_reason.proofs.reason.write_walk.Goals as goal

pub unreachable-requires : goal.unreachable-requires
unreachable-requires c =
    let none = subst (λ (x : Option (List ℕ)). IsLeastIfAny (IsWay c.args.graph.now (Write c.args.c) c.node_of.result) x) c.in-None.is c.in_ok-walk.ensures.least in
    c.requires.written (read_only_without c.args.graph.now c.args.k c.args.c c.node_of.result c.requires.whole c.node_of.ensures.node c.node_of.ensures.answer none c.requires.wanted)

pub returns : goal.returns
returns c = record {
  least = write_least c.args.graph.now c.args.k c.args.c c.node_of.result c.requires.whole c.node_of.ensures.node c.node_of.ensures.answer c.in-Some.walk
      (subst (λ (x : Option (List ℕ)). IsLeastIfAny (IsWay c.args.graph.now (Write c.args.c) c.node_of.result) x) c.in-Some.is c.in_ok-walk.ensures.least);
}
