pub mod Pasts
pub mod Slots
pub mod Asked
pub mod Stores
pub mod Opened
