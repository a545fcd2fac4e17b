pub mod Notes
pub mod Questions
pub mod Stands
pub mod Weighing
