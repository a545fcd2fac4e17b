pub mod Indexing
pub mod Leaves
pub mod OpenOnes
