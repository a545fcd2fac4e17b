pub mod Entries
pub mod Pasts
pub mod Slowing
pub mod Stopped
