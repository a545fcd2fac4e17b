pub mod Names
pub mod Actor
pub mod Node
pub mod JournalLaws
pub mod Weighing
