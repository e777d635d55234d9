-- the state of each page of a memory
pub mod Pages
-- the flags of one page
pub mod Flags
