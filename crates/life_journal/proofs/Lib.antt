-- the journal beside the calls of its parts
pub mod BesideLaws
-- bytes that are pushed one after another
pub mod PushLaws
-- what a journal holds goes on from call to call
pub mod HoldLaws
-- a journal that goes on behind an output that is cut
pub mod ResumeLaws
-- a record that is written call by call
pub mod WritingLaws
