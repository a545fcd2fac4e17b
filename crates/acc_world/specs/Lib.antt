pub mod Held
pub mod Keeping
pub mod Shared
pub mod Stands
pub mod StepLaws
pub mod Steps
pub mod Told
pub mod Values
