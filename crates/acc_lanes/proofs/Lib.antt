pub mod Maxima
pub mod Lanes
pub mod Members
pub mod Numbers
