-- what contracts see of a life
pub mod LifeView
-- where a life stands in its run
pub mod Lives
-- what a life keeps on its disk
pub mod Keeps
-- the refusals of the crates below
pub mod Faults
-- a run of instructions whose faults are served
pub mod RunsOver
-- what a life keeps of itself
pub mod SoundLife
-- what a call on a life comes to
pub mod Calls
-- what an instruction asks of a life
pub mod Serving
-- which chain fits a program
pub mod Unfit
-- what opening a store comes to
pub mod Opening
-- what a crash may leave while a life passes a checkpoint
pub mod Passing
-- what a life runs over before it starts
pub mod NewMemory
-- what a life is opened with
pub mod Arguments
-- what a life of a source keeps is good for it
pub mod Good
-- what the calls of a journal say of their moments
pub mod JournalCalls
-- what calls keep of a store that stands
pub mod Standing
-- the memory of a checkpoint, kept while the program runs on
pub mod Snapshot
-- the pace of the writer
pub mod Pace
