pub mod Act
pub mod Calls
pub mod Did
pub mod Going
pub mod Enter
pub mod Turn
pub mod Values
