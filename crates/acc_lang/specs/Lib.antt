pub mod Faults
pub mod Reading
pub mod Grammar
pub mod Answer
pub mod First
pub mod Texts
