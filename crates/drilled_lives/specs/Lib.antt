-- what the lives of a drill do
pub mod Courses
-- what a store holds between two lives
pub mod Between
-- what a life of a source comes to that is left at a step, or not
pub mod Going
-- what a life comes to that is opened on a store that stands for its source
pub mod Living
-- a life behind those before it
pub mod Next
-- the lines that tell of the lives
pub mod Lines
