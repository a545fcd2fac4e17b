pub mod Begun
pub mod Entering
pub mod Stands
