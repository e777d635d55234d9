-- what contracts see of a machine
pub mod MachineView
-- a machine that stands in a valid code
pub mod Standing
-- code, memory and pages that fit one another
pub mod Fitting
-- how far a machine is from its next tick
pub mod Rank
-- how much is left of a run of instructions to a bound
pub mod Rest
-- what a run of instructions shows
pub mod RunOn
-- what one instruction did
pub mod Stepped
-- what an instruction asks of the machine
pub mod Ready
