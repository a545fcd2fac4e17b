pub mod Asks
pub mod Choices
pub mod Commands
pub mod Desks
pub mod Fits
pub mod Groups
pub mod Outcomes
pub mod Threads
