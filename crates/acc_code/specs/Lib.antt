pub mod Reading
pub mod Spelling
pub mod Short
pub mod CellReading
pub mod BodyReading
