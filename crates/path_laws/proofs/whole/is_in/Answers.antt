use Rattle.std.proofs.Common.{◌<◌, arith}
use Rattle.std.proofs.lemmas.Bool.{lt-ltb}
use Rattle.std.proofs.lemmas.Bool.Decides.{nat_tests}
use Rattle.path_laws.proofs.GraphLaws.{edge_to, edge_at}
use Rattle.path_laws.proofs.whole.is_in.Goals as goal

pub returns-in-Some : goal.returns-in-Some
returns-in-Some c = record {
  answer = (
    (λ t m e. let s = edge_to c.args.next c.in-Some.m m c.in-Some.is e in let l : c.in-Some.m < c.args.count = grind (arith, nat_tests, t) in omega arith),
    (λ h. lt-ltb c.in-Some.m c.args.count (h c.in-Some.m (edge_at c.args.next c.in-Some.m c.in-Some.is))),
  );
}
