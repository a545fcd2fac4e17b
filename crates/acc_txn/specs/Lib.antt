pub mod Words
pub mod Uses
pub mod Rules
pub mod Meaning
pub mod Serial
pub mod BodySpelling
pub mod Short
pub mod Writing
