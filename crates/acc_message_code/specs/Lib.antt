pub mod Spelling
pub mod Reading
pub mod Short
pub mod Fitting
pub mod MessageSpelling
pub mod MessageReading
pub mod Weight
pub mod SharedParts
