-- sets by their members
pub mod SetLaws
-- rising runs
pub mod RunLaws
-- bits in words
pub mod BitLaws
-- rows of bits
pub mod RowLaws
-- bits of a word that are as its lowest bit is
pub mod BitRuns
