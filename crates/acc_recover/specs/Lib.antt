pub mod Rank
pub mod Rulings
pub mod Stands
