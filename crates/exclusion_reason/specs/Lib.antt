-- the walks that keep a cell in the images
pub mod WalksThatKeep
-- the least of some walks
pub mod Least
-- why a cell is kept
pub mod Reasons
-- both kinds of walks by the states that they come to
pub mod Ways
-- which states a search has come to
pub mod Seen
-- the visits of a search and their trails
pub mod Visits
