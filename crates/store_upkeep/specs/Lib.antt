-- a store whose records are joined
pub mod Coalescing
-- why the records of a store are not joined
pub mod Refused
-- a store that is cleared
pub mod Clearing
-- what calls keep of a store that stands
pub mod Keeping
