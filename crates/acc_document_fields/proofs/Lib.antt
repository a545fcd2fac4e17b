pub mod EachFacts
mod PathFacts
pub mod PlaceFacts
mod TextFacts
