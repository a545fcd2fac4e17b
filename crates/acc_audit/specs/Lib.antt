pub mod Said
pub mod Fronts
pub mod Rules
pub mod Users
pub mod Kept
pub mod Cases
