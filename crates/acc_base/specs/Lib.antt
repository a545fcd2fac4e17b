pub mod Faults
pub mod Numbers
pub mod Shared
pub mod Inline
pub mod Short
pub mod ShortList
