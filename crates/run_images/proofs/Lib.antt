-- images of events, one part after another
pub mod ImageLaws
-- joined lists grow, and join
pub mod JoinLaws
-- stores that stand
pub mod StandLaws
-- what one call changes in an outcome of a crash
pub mod Outcomes
-- what finding a chain says of the files
pub mod FoundLaws
-- what a change of the output leaves standing
pub mod OutputLaws
-- an outcome whose current file lists records that stand
pub mod ListedLaws
-- an outcome whose other file has the one joined record
pub mod JoinedLaws
-- what the fold over events keeps
pub mod FactLaws
-- a taken image holds what the run needs
pub mod HoldLaws
-- an append leaves a store that stands
pub mod AppendLaws
-- what the fold over events counts
pub mod SinceLaws
-- where runs of a code stop
pub mod CodeRuns
-- lives go like their source
pub mod AlikeLaws
-- what a resumed life holds before its first instruction
pub mod EntryLaws
-- what a life shows, and the images that it takes
pub mod LifeLaws
-- a life ends as its source
pub mod EndLaws
-- how much of the output a store needs
pub mod LastingLaws
-- no image of a store is lost
pub mod LaterLaws
-- a chain that stands, and its calls
pub mod ChainLaws
