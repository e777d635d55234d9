-- how what a crash may leave goes on from call to call
pub mod Calls
-- how what is kept of a disk goes on from call to call
pub mod Keeping
-- what a crash may leave of a file after each change
mod Outcomes
-- a log that takes one entry more
mod LogLaws
-- a disk in memory is a disk, call by call
mod DiskLaws
