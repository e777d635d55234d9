-- the lines of records
pub mod Lines
-- the text of a store, and why it has none
pub mod Store
