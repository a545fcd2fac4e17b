pub mod Finish
pub mod Moves
pub mod Queues
