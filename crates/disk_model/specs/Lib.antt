-- the three files of a store
pub mod Store
-- the four changes of a file, and what a crash may make of each
pub mod Change
-- what is told of a disk, and what its calls do to that
pub mod View
-- what a crash at each moment of a run of calls leaves
pub mod Moments
-- a file in memory, and what a crash may leave of it
pub mod MemoryFile
-- a disk in memory: its calls, its fuse and its crash
pub mod MemoryDisk
-- the changes that a disk in memory keeps
pub mod MemoryLog
-- what is told of a disk now
pub mod Plate
-- what a run of calls keeps of a disk, whatever it answers
pub mod Keeps
