-- where pointers flow in the text of a program
pub mod Flows
-- which objects a variable may hold
pub mod Points
-- numbers of variables
pub mod Numbers
-- the flows of a text as a graph
pub mod Nodes
