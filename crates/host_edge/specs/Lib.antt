-- what the real shelf, sink and disk tell
pub mod Untold
