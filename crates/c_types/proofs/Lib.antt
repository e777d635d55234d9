pub mod Faulty
pub mod Loops
pub mod Stands
pub mod KindLaws
pub mod Arguments
pub mod Tests
pub mod Numbers
pub mod KeptLaws
pub mod Making
pub mod RuleLaws
pub mod Composed
pub mod Fused
pub mod BodyLaws
pub mod TreeLaws
pub mod Passing
-- what declarations of the file make has its cells, and starts as it may
pub mod Forms
