-- words and their bytes
pub mod Words
-- the pages of a memory
pub mod Frame
