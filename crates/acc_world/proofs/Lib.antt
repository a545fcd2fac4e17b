pub mod Acted
pub mod Acting
mod Asked
pub mod Asks
mod Cells
pub mod Entered
pub mod Fast
mod Goings
pub mod Homes
pub mod Kept
pub mod Known
pub mod Noted
pub mod Rebuilt
mod Records
mod Seats
pub mod SlowSteps
mod TellsAttempts
pub mod Told
