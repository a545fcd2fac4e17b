pub mod AskLaws
pub mod Asks
pub mod Calls
pub mod Heights
pub mod Next
pub mod Schedules
pub mod Sends
