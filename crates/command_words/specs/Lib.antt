-- the numbers in words
pub mod Numbers
-- the options of a command
pub mod Options
-- the stops of a drill
pub mod Stops
-- which command the words are
pub mod Words
