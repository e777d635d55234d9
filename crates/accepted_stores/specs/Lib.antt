-- how opening a store that stands may still be refused
pub mod Accepted
