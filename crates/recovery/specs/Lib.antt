-- which chain fits a program
pub mod Fit
-- which chain is recovered, and why another is not
pub mod Recovery
