-- a field that is read is the one that was written, and the other way round
pub mod FieldLaws
-- runs, one after another
pub mod RunLaws
-- a whole record
pub mod RecordLaws
-- a record, part by part
pub mod ViewLaws
-- runs that are written
pub mod WriteLaws
-- a header
pub mod HeaderLaws
