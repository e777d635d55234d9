-- a life goes on with its run
pub mod ServedLaws
-- what a life keeps on its disk
pub mod KeptLaws
-- runs of instructions whose write faults are served
pub mod OverLaws
-- a life goes on with a run whose write faults are served
pub mod OverServed
-- what a life keeps of itself
pub mod SoundLaws
-- a life that is finished
pub mod FinishLaws
-- a life whose machine is given an input value
pub mod GivingLaws
-- turns of a life, one after another
pub mod GoingLaws
-- a life whose run is over
pub mod StoppedLaws
-- one turn of a life
pub mod TurnLaws
-- a life that has put out bytes
pub mod PutLaws
-- a life that passes a checkpoint
pub mod TakeLaws
-- what a crash may leave while a life passes a checkpoint
pub mod PassingLaws
-- a life that begins
pub mod BeginLaws
-- what opening a store leaves
pub mod OpenLaws
-- what a life runs over at first
pub mod RoomsLaws
-- what a recovery that refuses says
pub mod RecoveredLaws
-- a life that goes on from an image
pub mod ResumedLaws
-- what a life keeps stays good for its source
pub mod GoodLaws
-- it does so while the life runs
pub mod GoodRuns
-- it does so over the calls of the journal
pub mod GoodCalls
-- the image that a life takes stands
pub mod GoodImages
-- what a life keeps is good when it begins, and when it is resumed
pub mod GoodStarts
-- what a life of a source leaves when it is finished
pub mod GoodEnds
-- no call loses an image
pub mod LaterCalls
-- calls on a life of a source, one after another
pub mod StandingThen
-- an image is taken, call by call
pub mod GoodTaking
-- a store that stands is opened
pub mod GoodOpening
-- the sums of a pace
pub mod PaceLaws
