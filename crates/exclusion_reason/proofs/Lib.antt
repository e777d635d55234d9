-- the order of trails is that of their walks
pub mod OrderLaws
-- the trails of visits
pub mod TrailLaws
-- what a search keeps true
pub mod SearchLaws
-- the states that a search has come to
pub mod SeenLaws
-- walks by the states that they come to
pub mod WayLaws
