-- a store that stands is whole
pub mod WholeLaws
-- the checkpoint at which the newest image was taken
pub mod NewestLaws
-- what the run of a program may show
pub mod OwnEvents
-- which cells records list
pub mod ListedCells
-- a chain that stands fits its program
pub mod FitLaws
-- how opening a store that stands may be refused
pub mod RefusalLaws
