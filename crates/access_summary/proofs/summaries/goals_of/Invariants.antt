use Rattle.c_tree.specs.Layout.{cell_count}
use Rattle.access_summary.specs.Touch.{Touches}
use Rattle.access_summary.specs.Summaries.{AreSets, body_of}
use Rattle.access_summary.proofs.summaries.goals_of.Given as goal

-- the rows of the functions so far
abbrev pub invariant-bodies : goal.invariant-bodies
invariant-bodies l = AreSets (cell_count l.program) l.body-index (λ f c. Touches l.program l.access (body_of l.bodies f) c) l.rows.items
