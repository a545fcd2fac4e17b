pub mod Stretches
pub mod Rounds
pub mod Ends
pub mod Laws
