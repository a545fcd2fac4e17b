pub mod BlockFacts
pub mod Ids
pub mod KeptFacts
pub mod Rivals
pub mod ShareFacts
pub mod Steps
pub mod UserFacts
