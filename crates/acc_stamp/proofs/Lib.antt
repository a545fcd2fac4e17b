pub mod History
pub mod Order
pub mod Places
pub mod Rising
