pub mod Counts
pub mod Known
pub mod Numbers
pub mod Report
