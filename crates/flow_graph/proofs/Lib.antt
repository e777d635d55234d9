pub mod Follow
pub mod Same
pub mod Steps
pub mod Whole
pub mod Joins
pub mod Built
pub mod Marks
pub mod WorkExcludes
pub mod MainWhole
-- graphs of `main` do the same
pub mod SameMain
pub mod CheckpointLaws
-- the works of what keeps the rules keep them
pub mod WorkRuleLaws
-- what a text has is what its nodes have
pub mod AgreeText
-- objects, the cells in them, and the words that name them
pub mod AgreeObjects
-- expressions in two states that agree
pub mod AgreeValues
-- what the text says of pointers and calls, node by node
pub mod AgreeFlows
-- single statements in two states that agree
pub mod AgreeStores
-- what active calls read, and what goes into calls
pub mod AgreeCalls
-- from states that agree a run goes on to states that agree
pub mod AgreeGoing
-- states agree again when a call begins and when it ends
pub mod AgreeAnswers
-- one step from two states that agree
pub mod AgreeSteps
-- runs from states that agree
pub mod AgreeRuns
-- the state in which a program starts keeps its pointers
pub mod AgreeFirst
-- what is forgettable stays so until it is written
pub mod AgreeStays
-- what walks that show events promise of them
pub mod WalkEvents
-- what single statements show
pub mod ShowStores
-- what one step shows, and where it leads
pub mod ShowSteps
-- runs go along walks, and spare excluded cells
pub mod RunEvents
-- what a pointer expression names, the text lets it give
pub mod AgreePointers
-- sets to which runs of cells are added
pub mod Touching
-- the sets of a node have exactly the cells of its effects
pub mod EffectLaws
-- rising runs that have one cell together
pub mod OneCell
