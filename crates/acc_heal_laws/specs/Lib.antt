pub mod Healed
pub mod Stages
pub mod Healings
pub mod HealingFronts
pub mod Turned
pub mod Laws
pub mod FrontLaws
