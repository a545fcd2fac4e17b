pub mod Actor
pub mod Clock
pub mod History
pub mod Order
pub mod Rising
pub mod Stamp
