pub mod Agree
pub mod Keeps
pub mod UsesFacts
pub mod Writes
mod Texts
mod Sums
mod Written
pub mod Kept
pub mod ByteCounts
pub mod BodyShortness
