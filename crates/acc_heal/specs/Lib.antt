pub mod Actors
pub mod Applies
pub mod Numbers
pub mod Seen
pub mod Places
pub mod Healed
