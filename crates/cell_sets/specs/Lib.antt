-- a set of numbers below a universe
pub mod Sets
-- runs of cells, in rising order
pub mod Runs
-- two lists of runs, swept from left to right
pub mod Sweep
-- bits in words
pub mod Bits
