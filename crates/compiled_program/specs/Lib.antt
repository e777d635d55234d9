-- what a life asks of a compiled program
pub mod CanRun
