pub mod Faults
pub mod ShortOrder
