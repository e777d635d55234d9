mod Files
mod FailedReads
-- a pointer moved modulo 2^64
mod Moved
