pub mod KeyOrder
pub mod Rising
pub mod Clash
pub mod Uses
pub mod EntryFacts
