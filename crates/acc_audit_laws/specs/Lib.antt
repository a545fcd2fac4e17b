pub mod Made
pub mod Meaning
