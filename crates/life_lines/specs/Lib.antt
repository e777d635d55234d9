-- the lines that tell of a life
pub mod Lines
