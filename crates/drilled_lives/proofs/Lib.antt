-- a life of a source that goes on to a tick, and is finished
mod GoingLaws
-- how a life starts on a store between two lives
mod StartLaws
-- a life that was opened on a store
mod LivingLaws
-- what a life leaves for the next
mod NextLaws
-- what a crash leaves of a disk in memory
mod CrashLaws
-- the lives of a drill, one after another
mod DrillLaws
