pub mod Writers
pub mod Applied
pub mod Heights
pub mod Refused
pub mod Planned
pub mod Weighed
pub mod Unapplied
