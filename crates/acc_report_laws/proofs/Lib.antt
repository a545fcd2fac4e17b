mod Actors
pub mod Alone
pub mod Bodies
mod Cases
pub mod Called
pub mod Data
pub mod Forms
mod Known
mod Noted
mod Placed
mod Reacting
mod Replies
mod Sent
mod Steps
mod Told
