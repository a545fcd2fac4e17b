pub mod Commands
pub mod FreeRun
pub mod Served
pub mod Serving
pub mod Turns
