-- the generated program
pub mod Generated
