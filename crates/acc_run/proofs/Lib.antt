pub mod Taking
pub mod Numbers
pub mod Beginning
pub mod Earlier
pub mod Whole
