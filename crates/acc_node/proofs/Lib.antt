mod Keys
mod Standing
pub mod Clocks
mod Drawing
mod Slowing
mod Noting
mod Hearing
mod Taking
mod Refusing
mod ShortStores
mod Sending
mod Weighing
