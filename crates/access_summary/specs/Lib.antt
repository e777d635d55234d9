-- the edges between the nodes of a function
pub mod Edges
-- edges that are appended, the last first
pub mod Laying
-- what statements may read and write, and which functions they call
pub mod Effects
-- cells that an access may touch
pub mod Touch
-- which cells a function may read and write
pub mod Summaries
-- the edges of the graph of calls
pub mod CallEdges
