-- one edge, if it is there
pub mod Edge
-- a graph whose nodes read, write and kill cells
pub mod Graph
-- walks
pub mod Walks
-- what walks come to, over any edges
pub mod Reaching
-- cells that no walk wants
pub mod Forgettable
-- what the solver keeps true
pub mod Solving
