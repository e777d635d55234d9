-- the header of a pool file, and where its entries and its slots stand
pub mod Layout
-- the slots of a pool: the bytes of each job, and their exclusive-or
pub mod Slots
-- the pool of a store, and every kind of damage
pub mod Pools
-- a pool on a disk, and what its calls leave
pub mod OnDisk
-- a pool file while it is written
pub mod Writing
