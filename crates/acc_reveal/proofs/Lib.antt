pub mod Names
pub mod Revealing
pub mod Step
