pub mod Ended
pub mod Lists
pub mod Moving
pub mod Rounds
pub mod Steps
pub mod Strictly
pub mod Turning
pub mod Within
