-- nodes, edges and walks of a graph
pub mod GraphLaws
-- rows after one of them has grown
pub mod RowLaws
-- the solver's steps keep what it has to keep
pub mod WorkLaws
