pub mod Stands
pub mod Queries
pub mod Weighing
pub mod Prepared
