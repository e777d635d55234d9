use Rattle.std.proofs.Common.{◌<◌, ◌≤◌, ◌+◌, ◌*◌, length, drop}
use Rattle.path_laws.specs.Reaching.{joins, AllWide}
use Rattle.path_laws.specs.Solving.{missing, IsPartial, IsLeft, Never}
use Rattle.path_laws.proofs.solver.reaching.Given as goal

abbrev pub invariant-work : goal.invariant-work
invariant-work l = record {
  partial : IsPartial (joins l.edges) l.goals l.stops l.rows.items l.work.items Never;
  wide : AllWide l.width l.rows.items;
}

abbrev pub decreases-work : goal.decreases-work
decreases-work l = 2 * missing l.width l.rows.items + length l.work.items

abbrev pub invariant-edges : goal.invariant-edges
invariant-edges l = record {
  partial : IsPartial (joins l.edges) l.goals l.stops l.rows.items l.work.items (IsLeft l.m (drop l.n-index l.n-items));
  wide : AllWide l.width l.rows.items;
  falls : 2 * missing l.width l.rows.items + length l.work.items ≤ 2 * missing l.width l.initial.rows.items + length l.initial.work.items;
  m_in : l.m < length l.goals;
}
