-- the one record that joins the records of a chain
pub mod Join
