-- what a life comes to
pub mod Ends
-- what it comes to on a store that stood for its source
pub mod AsSource
