-- what contracts see of a journal
pub mod JournalView
-- what a journal holds on its disk
pub mod Holding
-- records that may have been joined
pub mod Joining
-- a record that is written call by call
pub mod Writing
-- a chain with one record more
pub mod Recorded
-- what beginning leaves of the disk
pub mod Begun
