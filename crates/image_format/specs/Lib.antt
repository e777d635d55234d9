-- an image: what is kept of a checkpoint
pub mod Image
-- the bytes that spell an image and a header
pub mod Spelling
-- reading them field by field, with the place of the first bad field
pub mod Reading
-- a run that is read or shown
pub mod Runs
-- the image that is written of runs in a memory
pub mod Written
