pub mod Hands
pub mod Openings
pub mod Joined
pub mod Parting
pub mod Known
pub mod Working
