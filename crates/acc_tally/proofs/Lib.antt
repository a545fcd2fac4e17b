mod Counted
pub mod Everywhere
pub mod Exist
mod Listed
