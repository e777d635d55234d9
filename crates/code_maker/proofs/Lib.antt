-- instructions that stand in a code
pub mod Has
-- where the machine stands within a node
pub mod Stand
-- the code of expressions runs
pub mod ExprRuns
-- where the segments of nodes stand
pub mod Segments
-- the code of single statements
pub mod Acts
-- the code of several values, and of what is printed
pub mod Prints
-- where the machine stands for a spot of the graphs
pub mod Ties
-- the code of each node
pub mod Nodes
-- the graphs of a checked program are placed in its code
pub mod Placed
-- the runs of the code are those of the graphs
pub mod Means
-- how long codes are
pub mod Lengths
-- the code of each kind of expression
pub mod Blocks
-- the code of nodes, as it is made
pub mod Emitted
-- the code of graphs, as it is made
pub mod Making
-- how many operands several values need
pub mod ValueDepths
-- the depths of a block of instructions
pub mod DepthList
-- blocks that jump within themselves
pub mod ValidJumps
-- the code of expressions has its operands
pub mod ValidExprs
-- the code of nodes has its operands
pub mod ValidNodes
-- the segments of a graph, and their depths
pub mod ValidSegments
-- the code of a graph, and its depths
pub mod ValidGraphs
-- the tables of a code
pub mod ValidTables
-- the code of a program, and its depths
pub mod ValidProgram
-- the machine can run the code of a program
pub mod ValidLaws
-- the checkpoints of a code
pub mod CheckpointLaws
-- how many instructions nodes have
pub mod SizeNodes
-- how many instructions programs have
pub mod SizePrograms
-- what one node leaves
pub mod ResumedSteps
-- where a run stands behind a checkpoint
pub mod ResumedRuns
-- the code of a checked program means what its graphs mean
pub mod Meaning
-- runs from behind a checkpoint
pub mod ResumedLaws
