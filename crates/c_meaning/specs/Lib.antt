-- what `plain` shows of a run
pub mod Plain
-- the memory of a run
pub mod Memory
-- what the evaluator has left to do, and which runs go on from it
pub mod Working
