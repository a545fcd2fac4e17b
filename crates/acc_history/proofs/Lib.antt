pub mod Lists
pub mod Raised
pub mod Entered
pub mod Over
pub mod Stopped
pub mod Behind
