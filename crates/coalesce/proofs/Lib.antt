-- the runs of the cells that are listed
pub mod FindLaws
-- the record that joins records
pub mod JoinLaws
