-- calls on a life, one after another
pub mod DriveLaws
-- a life that was opened, driven and finished
mod LiveLaws
-- a life whose store stood for its source
mod SourceLaws
