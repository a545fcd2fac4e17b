pub mod Bodies
pub mod Document
pub mod Draws
pub mod Plan
pub mod Texts
pub mod Tokens
