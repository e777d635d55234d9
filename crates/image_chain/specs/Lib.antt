-- the chain of a store: its files, their records, and every kind of damage
pub mod Records
-- the records of a store, and those of one image file with its header
pub mod Files
-- what records give each cell
pub mod Memory
-- what a chain keeps of its file, whatever its disk tells
pub mod Sound
-- what contracts see of a chain
pub mod ChainView
-- what an append leaves in the file, call by call
pub mod Append
-- what a crash leaves of the chain at each moment
pub mod Lists
-- what a joining leaves in the other image file, call by call, and of the chain
pub mod Replace
-- a store that is cleared
pub mod Clear
-- what a call answers of a store, and what it leaves of the disk
pub mod Looking
-- how far the records of a file were read
pub mod Walk
-- the record that stands at a known place
pub mod Shown
