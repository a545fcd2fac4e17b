pub mod Crashes
mod Emptiness
pub mod Images
pub mod Makers
pub mod SinkLemmas
pub mod SourceLemmas
pub mod Times
pub mod Undoing
