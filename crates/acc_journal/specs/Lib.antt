pub mod Calls
pub mod Errors
pub mod Layout
pub mod Journal
pub mod Records
