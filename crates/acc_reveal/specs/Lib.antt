pub mod Revealed
