pub mod Moves
pub mod Counting
pub mod Reading
pub mod Joining
pub mod Hearing
pub mod Made
