-- from what the solver says to walks of the graph
pub mod ReachLaws
-- dead and read-only cells by what nodes come to
pub mod ExcludedLaws
-- rows by nodes
pub mod RowLaws
-- graphs whose nodes do the same have the same excluded cells
pub mod SameSets
-- cells that all nodes treat alike
pub mod ClassLaws
