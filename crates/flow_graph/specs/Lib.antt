-- what the nodes of a function do
pub mod Works
-- what a graph does, node after node
pub mod Run
-- how runs of a graph go on
pub mod GoesOn
-- the graphs that were made of a program
pub mod Made
-- works that keep the rules of the language
pub mod WorkRules
-- what a node may read, write and kill
pub mod NodeEffects
-- the graph of `main` with the effects of its nodes
pub mod MainGraph
-- graphs whose edges fit what their nodes do
pub mod Joined
-- the nodes that are CHECKPOINT_HERE
pub mod Checkpoints
-- the graph of `main` while its nodes are added
pub mod Building
-- cells that some walk wants
pub mod Wanted
-- states that agree before a node, and keep their pointers
pub mod Agreement
-- the walk of a run, and the events that its nodes show
pub mod RunWalks
-- what excluded sets promise of a run's events
pub mod Spared
-- the cells of effects, as sets
pub mod EffectCells
