pub mod Fields
pub mod Gives
pub mod Placed
pub mod Reading
pub mod Report
