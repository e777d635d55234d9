-- a store's records are found again
pub mod ListLaws
-- what each step of an append leaves
pub mod StepLaws
-- the output file stays as it was
pub mod OutputLaws
-- how far an append has come
pub mod LoopWords
-- an append goes on from step to step
pub mod LoopLaws
-- a chain that begins, and one that is settled
pub mod StartLaws
-- what a chain keeps of its file stays sound
pub mod SoundLaws
-- what each call of a joining leaves
pub mod ReplaceLaws
-- the joined content of records
pub mod KeptLaws
-- looking at the files of a store
pub mod LookLaws
-- the records of a file, one after another
pub mod WalkLaws
-- the chain that is opened
pub mod OpenLaws
-- the record that stands at a known place
pub mod ShownLaws
-- a chain beside calls on other files
pub mod BesideLaws
-- the order of the steps of an append
pub mod OrderLaws
-- a store that is cleared
pub mod ClearLaws
-- a chain that is found, and the files that it is found in
pub mod FoundLaws
-- the last of some records
pub mod LastLaws
