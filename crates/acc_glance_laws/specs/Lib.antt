pub mod SerialCells
pub mod Looks
