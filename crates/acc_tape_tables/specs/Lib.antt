pub mod Halls
pub mod Samples
