-- how an output stands, and what its calls make of that
pub mod Pushed
-- the output on the disk, now and at each moment
pub mod OnDisk
