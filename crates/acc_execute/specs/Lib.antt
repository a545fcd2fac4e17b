pub mod Executed
pub mod Now
pub mod Opened
pub mod Own
pub mod Owned
