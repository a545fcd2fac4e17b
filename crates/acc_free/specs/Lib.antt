pub mod Dealing
pub mod Opened
pub mod Workers
pub mod Parts
pub mod Given
