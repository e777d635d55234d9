use Rattle.std.proofs.Common.{drop}
use Rattle.path_laws.specs.Walks.{IsWalkFrom}
use Rattle.path_laws.proofs.graph.EffectGraph.goes_on.Given as goal

abbrev pub invariant-steps : goal.invariant-steps
invariant-steps l = record {
  on : IsWalkFrom l.self l.fn.first l.rest → IsWalkFrom l.self l.at (drop l.to-index l.rest);
  back : IsWalkFrom l.self l.at (drop l.to-index l.rest) → IsWalkFrom l.self l.fn.first l.rest;
}
