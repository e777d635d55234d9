-- what the events of a run leave for its next image
pub mod Since
-- the images of a run
pub mod Images
-- records that stand for images, of which the first may stand for several
pub mod JoinedList
-- a program with its input, and its run
pub mod Source
-- what records hold of a memory
pub mod Hold
-- a store that stands for a source
pub mod Stands
-- how far the newest image of a store is
pub mod Later
-- what a life takes from a compiled program
pub mod Compiled
-- where the run of a life begins, and when it goes like its source
pub mod Origin
-- what a life has shown of its source, and the images that it takes
pub mod Shown
