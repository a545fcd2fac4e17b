pub mod Canonical
pub mod Numbers
