pub mod Columns
pub mod Kept
pub mod Noted
pub mod Places
pub mod Users
