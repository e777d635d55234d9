-- the digests of a source and of an input
pub mod Digests
