pub mod Quiet
pub mod Whole
