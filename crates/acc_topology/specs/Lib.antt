pub mod Sets
pub mod Layout
pub mod Quorums
pub mod Faults
pub mod View
pub mod Keys
