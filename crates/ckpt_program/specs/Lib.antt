-- what is told of the shelf, apart from the file that is open
pub mod Sight
-- what reading a whole file comes to
pub mod Fetched
-- stages, and how they are joined
pub mod Stage
-- the faults that refusals tell
pub mod Reasons
-- which texts are accepted
pub mod Accepted
-- the stages that read files
pub mod Stages
-- the stages that use a store
pub mod DiskStages
-- the stages of a life
pub mod LifeStages
-- the stages that keep a store in order
pub mod Upkeep
-- what `compile` prints
pub mod Listed
-- what `report` prints
pub mod Report
-- what `why` prints
pub mod Why
-- what each command comes to
pub mod Rows
-- what the commands that live come to
pub mod LifeRow
-- what the commands that drill come to
pub mod Drill
-- what the words come to
pub mod Carries
-- the status and the text of what a command has come to
pub mod Texts
-- what the console takes
pub mod Told
-- the main theorem
pub mod Headline
-- what the commands that drill tell of a source
pub mod Drilled
-- the clauses of the top call that name no outcome
pub mod Top
