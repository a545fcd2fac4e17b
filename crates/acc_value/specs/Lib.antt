pub mod Key
pub mod KeyHash
pub mod Value
pub mod Pairs
pub mod SharedPairs
pub mod Cells
pub mod Entries
pub mod Footprint
