-- the code of expressions
pub mod ExprCode
-- the code of nodes, and of graphs
pub mod NodeCode
-- how many operands a code needs
pub mod Depths
-- the code of a program
pub mod ProgramCode
-- the checkpoints of a code
pub mod CheckpointPlaces
-- what a code means
pub mod CodeMeaning
-- how many instructions a code may have
pub mod Parts
-- runs that go on from a checkpoint
pub mod Resumed
