-- cells that an image may leave out
pub mod Excluded
-- graphs whose nodes do the same
pub mod SameGraphs
-- cells that all nodes treat alike
pub mod Classes
-- finding the classes
pub mod Finding
-- rows over classes
pub mod Rows
