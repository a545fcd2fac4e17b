pub mod Heads
pub mod Indexed
pub mod Mail
pub mod Standing
pub mod Trees
