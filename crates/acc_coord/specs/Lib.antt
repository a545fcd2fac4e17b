pub mod Cells
pub mod Stands
pub mod Rounds
pub mod Weighing
