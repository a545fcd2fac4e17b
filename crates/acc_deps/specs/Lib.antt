pub mod Content
pub mod Deps
pub mod Records
