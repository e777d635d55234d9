-- a header that was written is read again
mod HeaderLaws
-- the current file of a store
mod StoreLaws
-- the exclusive-or of slots
mod XorLaws
-- the lengths that a pool file keeps
mod LengthLaws
-- the slots of a pool, and those that are lost
mod SlotLaws
-- how what is told of a disk goes on over looks
mod MomentLaws
-- what each call leaves of a pool file that is being written
mod WritingLaws
-- the text of a pool file, and what stands at its places
mod TextLaws
-- what a put writes is the pool of the new list
mod PutLaws
-- a pool on a disk: once it was read, and once it was written
mod StandsLaws
-- a pool in which no job has bytes
mod EmptyLaws
-- a put on a disk, from its call to its answer
mod ReadyLaws
