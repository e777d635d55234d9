-- a list of bytes with spare room
pub mod Buffer
-- how often calls on the outside have failed
pub mod Faults
-- what is told of a sink
pub mod Sink
-- what is told of a shelf
pub mod Shelf
-- the files of a shelf in memory
pub mod ShelfFiles
-- the numbers of the traps
pub mod Trap
-- the operators on words
pub mod Word
-- words that are pointers
pub mod Pointer
-- what a run does that shows
pub mod Event
-- what a run gives, and its output
pub mod Run
