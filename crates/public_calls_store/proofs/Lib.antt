-- a disk in memory that is empty has no chain
mod EmptyStore
