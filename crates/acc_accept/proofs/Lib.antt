pub mod Granting
pub mod Accepts
pub mod Commits
pub mod Same
