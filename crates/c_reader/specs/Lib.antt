-- what the scan of the code answers, beside the scan of the definitions
pub mod Scanning
-- what the reader of expressions computes, on lists
pub mod Reading
-- what a loop over items with commas between them computes, on lists
pub mod Listing
-- what the reader of calls computes, on lists
pub mod ReadingCalls
-- what the reader of statements computes, on lists
pub mod ReadingStatements
-- what the reader of a whole text computes, on lists
pub mod ReadingItems
-- what the reader of the code answers, beside the reader on lists
pub mod Gives
-- the fault of a text that spells no program
pub mod ReadFaults
