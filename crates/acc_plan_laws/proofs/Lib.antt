mod StartsOnce
mod PlansValid
pub mod AllReplied
mod Safely
mod OverStrictDisks
