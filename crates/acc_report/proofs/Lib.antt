pub mod CountedNotes
pub mod Joined
mod KnownFacts
pub mod NameFacts
pub mod Steps
